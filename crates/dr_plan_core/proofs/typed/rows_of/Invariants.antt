use Rattle.std.specs.Prelude.{All}
use Rattle.std.specs.Vec.Iter.{into_iter_items}
use Rattle.dr_plan_text.specs.declared.words.AcceptText.{AcceptText}
use Rattle.dr_base.specs.Syntaxes.{IsSyntax}
use Rattle.dr_plan_core.specs.Spelling.{written_row}
use Rattle.dr_plan_core.proofs.Typing.{Left}
use Rattle.dr_plan_core.proofs.typed.rows_of.Given as goal

abbrev pub invariant-loop-row : goal.invariant-loop-row
invariant-loop-row l = Left written_row (λ (row : AcceptText). All IsSyntax row.syntaxes) l.fn.rows l.typed.items (into_iter_items l.row-iterator)
