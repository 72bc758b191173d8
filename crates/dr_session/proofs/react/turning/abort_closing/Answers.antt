use Rattle.std.proofs.Common.{[], ◌∷◌}
use Rattle.dr_session.specs.Reactions.{abort_pdu, aborted, write}
use Rattle.dr_session.proofs.Effects.{acted}
use Rattle.dr_session.proofs.react.turning.abort_closing.Goals as goal

pub returns : goal.returns
returns c =
    acted c.act_once.result c.in_ok-action.action (write (abort_pdu 2 0 ∷ [])) c.mark_aborted.result (aborted c.args.core)
    c.act_once.ensures c.in_ok-action.ensures c.mark_aborted.ensures
