use Rattle.std.proofs.Common.{ap, ◌∙◌, [], ◌∷◌}
use Rattle.dr_pdu.specs.declared.pdu.Pdu.TheVariants.{AssociateRj}
use Rattle.dr_ulstate.specs.declared.table.Event.TheVariants.{RejectResponse}
use Rattle.dr_session.specs.declared.ends.Core.{Core}
use Rattle.dr_session.specs.Reactions.{rejected, stepped_by, write}
use Rattle.dr_session.proofs.Effects.{acted}
use Rattle.dr_session.proofs.react.acceptor.reject.Goals as goal

pub returns : goal.returns
returns c =
    acted c.act_once.result c.in_ok-action.action (write (AssociateRj c.args.rejection ∷ [])) c.mark_rejected.result (rejected c.args.rejection (stepped_by RejectResponse c.args.at.now c.args.core))
    c.act_once.ensures c.in_ok-action.ensures (c.mark_rejected.ensures ∙ ap (λ (x : Core). rejected c.args.rejection x) c.reject.ensures)
