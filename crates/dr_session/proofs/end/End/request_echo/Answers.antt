use Rattle.std.proofs.Common.{[], ◌∷◌, None, subst, sym, ap, ◌∙◌}
use Rattle.dr_pdu.specs.Written.{Fits}
use Rattle.dr_pdu.specs.declared.pdu.Pdu.TheVariants as pdus
use Rattle.dr_nego.specs.Agreeing.{AssociateRq}
use Rattle.dr_nego.proofs.Sized.{echoes_fit}
use Rattle.dr_session.specs.Ends.{begins, requesting}
use Rattle.dr_session.specs.Reactions.{write}
use Rattle.dr_session.proofs.end.End.request_echo.Goals as goal

pub open-requires : goal.open-requires
open-requires c =
    let P : AssociateRq → Type 0 = λ rq. Fits (pdus.AssociateRq rq) in
    subst P (sym c.in_ok-proposal.ensures) (echoes_fit c.args.caller.now c.args.called.now c.requires.caller c.requires.called)

pub returns-clause-end : goal.returns-clause-end
returns-clause-end c = c.in_ok-opened.ensures.end ∙ ap (λ (rq : AssociateRq). begins 16384 (requesting None c.args.called.now rq c.args.now)) c.in_ok-proposal.ensures

pub returns-clause-actions : goal.returns-clause-actions
returns-clause-actions c = c.in_ok-opened.ensures.actions ∙ ap (λ (rq : AssociateRq). write (pdus.AssociateRq rq ∷ []) ∷ []) c.in_ok-proposal.ensures
