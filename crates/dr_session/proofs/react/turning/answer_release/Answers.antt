use Rattle.std.proofs.Common.{[], ◌∷◌, ap, ◌∙◌}
use Rattle.dr_pdu.specs.declared.pdu.Pdu.TheVariants.{ReleaseRp}
use Rattle.dr_ulstate.specs.declared.table.Event.TheVariants.{ReleaseResponse}
use Rattle.dr_session.specs.declared.ends.Core.{Core}
use Rattle.dr_session.specs.Reactions.{released, stepped_by, write}
use Rattle.dr_session.proofs.Effects.{acted}
use Rattle.dr_session.proofs.react.turning.answer_release.Goals as goal

pub returns : goal.returns
returns c =
    acted c.act_once.result c.in_ok-action.action (write (ReleaseRp ∷ [])) c.mark_released.result (released (stepped_by ReleaseResponse c.args.now c.args.core))
    c.act_once.ensures c.in_ok-action.ensures (c.mark_released.ensures ∙ ap (λ (x : Core). released x) c.respond.ensures)
