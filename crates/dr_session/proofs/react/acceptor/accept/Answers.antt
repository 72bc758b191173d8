use Rattle.std.proofs.Common.{[], ◌∷◌, Some}
use Rattle.dr_pdu.specs.declared.pdu.Pdu.TheVariants.{AssociateAc}
use Rattle.dr_ulstate.specs.declared.table.Event.TheVariants.{AcceptResponse}
use Rattle.dr_session.specs.Reactions.{stepped_by, write}
use Rattle.dr_session.proofs.Effects.{acted_so}
use Rattle.dr_session.proofs.react.acceptor.accept.Goals as goal

pub returns : goal.returns
returns c =
    acted_so c.act_once.result c.in_ok-action.action (write (AssociateAc c.args.ac ∷ [])) c.establish.result
    (record (stepped_by AcceptResponse c.args.at.now c.args.core) { peer = c.args.rq.front.calling; agreed = Some c.args.agreed })
    c.act_once.ensures c.in_ok-action.ensures c.establish.ensures
