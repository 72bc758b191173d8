use Rattle.std.proofs.Common.{List, ◌++◌, sym, ap, ◌∙◌}
use Rattle.dr_session.specs.declared.ends.LinkAction.{LinkAction}
use Rattle.dr_session.proofs.InTurn.{both_several, nothing_before, nothing_behind, on_err}
use Rattle.dr_session.proofs.hearing.join.Goals as goal

pub returns-then-is_empty-clause-joined : goal.returns-then-is_empty-clause-joined
returns-then-is_empty-clause-joined c = nothing_before c.args.first c.args.more (sym c.is_empty.ensures ∙ c.if-is_empty.true)

pub returns-then-is_empty-2-clause-joined : goal.returns-then-is_empty-2-clause-joined
returns-then-is_empty-2-clause-joined c = nothing_behind c.args.first c.args.more (sym c.is_empty-2.ensures ∙ c.if-is_empty-2.true)

pub returns-clause-joined : goal.returns-clause-joined
returns-clause-joined c =
    c.in_ok-all.ensures ∙ (ap (λ (l : List LinkAction). l ++ c.into_vec-2.result.items) c.into_vec.ensures ∙ ap (λ (l : List LinkAction). c.args.first ++ l) c.into_vec-2.ensures)

pub returns-in_err-all-clause-wants : goal.returns-in_err-all-clause-wants
returns-in_err-all-clause-wants c = on_err _ _
    (both_several c.args.first c.args.more (sym c.is_empty.ensures ∙ c.if-is_empty.false) (sym c.is_empty-2.ensures ∙ c.if-is_empty-2.false))
