use Rattle.std.proofs.Common.{◌∙◌}
use Rattle.std.specs.Prelude.{All}
use Rattle.dr_plan_text.specs.declared.words.AcceptText.{AcceptText}
use Rattle.dr_base.specs.Syntaxes.{IsSyntax}
use Rattle.dr_plan_core.specs.Spelling.{written_row}
use Rattle.dr_plan_core.proofs.Typing.{all_left, next_known, one_less, none_left, no_items}
use Rattle.dr_plan_core.proofs.typed.rows_of.Goals as goal

pub loop-row-init : goal.loop-row-init
loop-row-init c = all_left written_row (λ (row : AcceptText). All IsSyntax row.syntaxes) c.args.rows _ _ c.new-typed.ensures.items (c.into_iter-row-iterator.ensures.into_iter_gives.0 ∙ c.into_vec-row-items.ensures) c.requires

pub loop-row-preserved : goal.loop-row-preserved
loop-row-preserved c =
    rw c.in_ok-push.ensures.items (one_less written_row (λ (row : AcceptText). All IsSyntax row.syntaxes) c.args.rows c.loop-row.typed.items _ _ c.in_ok-row_of.field-0 c.in-Some.row c.loop-row.invariant c.in-Some.ensures.steps.0 c.in_ok-row_of.ensures)

pub row_of-requires : goal.row_of-requires
row_of-requires c = next_known written_row (λ (row : AcceptText). All IsSyntax row.syntaxes) c.args.rows c.loop-row.typed.items _ _ c.in-Some.row c.loop-row.invariant c.in-Some.ensures.steps.0

pub returns : goal.returns
returns c = rw c.from_vec.ensures (none_left written_row (λ (row : AcceptText). All IsSyntax row.syntaxes) c.args.rows c.loop-row.typed.items _ c.loop-row.invariant (no_items _ _ c.loop-row.row-iterator.rest.ok.0 c.in-None.ensures.steps.0))
