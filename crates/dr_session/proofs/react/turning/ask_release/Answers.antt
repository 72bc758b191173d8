use Rattle.std.proofs.Common.{[], ◌∷◌, Some}
use Rattle.dr_pdu.specs.declared.pdu.Pdu.TheVariants.{ReleaseRq}
use Rattle.dr_session.specs.Reactions.{write}
use Rattle.dr_session.proofs.Effects.{acted}
use Rattle.dr_session.proofs.react.turning.ask_release.Goals as goal

pub returns : goal.returns
returns c =
    acted c.act_once.result c.in_ok-action.action (write (ReleaseRq ∷ [])) c.await_since.result (record c.args.core { awaits = Some c.args.now })
    c.act_once.ensures c.in_ok-action.ensures c.await_since.ensures
