use Rattle.std.proofs.Common.{sym, ap, subst, ◌∙◌}
use Rattle.dr_ulstate.specs.declared.table.State.{State}
use Rattle.std.specs.Prelude.{OnErr}
use Rattle.dr_session.specs.declared.ends.Input.{Input}
use Rattle.dr_session.specs.declared.ends.Input.TheVariants.{Value, Acceptance}
use Rattle.dr_session.specs.declared.ends.Told.TheVariants.{Plain}
use Rattle.dr_session.specs.declared.ends.Core.{Core}
use Rattle.dr_session.specs.Plays.{IsKept, TellsTo}
use Rattle.dr_session.specs.Telling.{TakesData, state_at}
use Rattle.dr_session.proofs.InTurn.{on_err}
use Rattle.dr_session.proofs.Saying.{each_told, each_value, told_by, tells_untaken, tells_unawaited, tells_plain, false_not}
use Rattle.dr_session.proofs.telling.tell.Goals as goal

pub returns-then-takes_data-clause-tells : goal.returns-then-takes_data-clause-tells
returns-then-takes_data-clause-tells c =
    each_told c.args.core c.args.input (Value c.in-Value.pdv) c.tell_value.result c.in-Value.is
    (each_value c.args.core c.in-Value.pdv c.tell_value.result
    (subst (λ (s : State). TakesData s) c.state.ensures (c.takes_data.ensures.0 c.if-takes_data.true)) c.tell_value.ensures.tells)

pub returns-else-takes_data-clause-tells : goal.returns-else-takes_data-clause-tells
returns-else-takes_data-clause-tells c =
    told_by c.args.core c.args.core c.args.input (Value c.in-Value.pdv) (Plain (Value c.in-Value.pdv)) c.in-Value.is
    (tells_untaken c.args.core c.in-Value.pdv
    (λ takes. false_not c.takes_data.result (c.takes_data.ensures.1 (subst (λ (s : State). TakesData s) (sym c.state.ensures) takes)) c.if-takes_data.false))

pub tell_acceptance-told-requires : goal.tell_acceptance-told-requires
tell_acceptance-told-requires c = ap (λ (x : Core). state_at x) c.as_core.ensures ∙ (sym c.state-in-Acceptance.ensures ∙ c.awaits_answer.ensures.0 c.if-awaits_answer.true)

pub returns-then-awaits_answer-clause-tells : goal.returns-then-awaits_answer-clause-tells
returns-then-awaits_answer-clause-tells c =
    let T : Core → Type 0 = λ x. TellsTo x (Acceptance c.in-Acceptance.ac) c.tell_acceptance-told.result x in
    told_by c.args.core c.args.core c.args.input (Acceptance c.in-Acceptance.ac) c.tell_acceptance-told.result c.in-Acceptance.is (subst T c.as_core.ensures c.tell_acceptance-told.ensures.tells)

pub returns-else-awaits_answer-clause-tells : goal.returns-else-awaits_answer-clause-tells
returns-else-awaits_answer-clause-tells c =
    told_by c.args.core c.args.core c.args.input (Acceptance c.in-Acceptance.ac) (Plain (Acceptance c.in-Acceptance.ac)) c.in-Acceptance.is
    (tells_unawaited c.args.core c.in-Acceptance.ac
    (λ five. false_not c.awaits_answer.result (c.awaits_answer.ensures.1 (c.state-in-Acceptance.ensures ∙ five)) c.if-awaits_answer.false))

pub returns-in_default-clause-tells : goal.returns-in_default-clause-tells
returns-in_default-clause-tells c = tells_plain c.args.core c.args.input (λ p is. c.in_default.not-Value p is) (λ ac is. c.in_default.not-Acceptance ac is)

pub returns-then-takes_data-clause-kept : goal.returns-then-takes_data-clause-kept
returns-then-takes_data-clause-kept c =
    let takes : TakesData (state_at c.args.core) = subst (λ (s : State). TakesData s) c.state.ensures (c.takes_data.ensures.0 c.if-takes_data.true) in
    subst (λ (i : Input). OnErr c.tell_value.result (IsKept c.args.core i)) (sym c.in-Value.is) (on_err _ _ takes)
