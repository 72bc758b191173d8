use Rattle.std.proofs.Common.{[], ◌∷◌}
use Rattle.dr_session.specs.Reactions.{abort_pdu, aborted, write}
use Rattle.dr_session.proofs.Acting.{left_done, left_broke}
use Rattle.dr_session.specs.Reactions.{leaves}
use Rattle.dr_session.proofs.Wanting.{broke_at, leaves_write}
use Rattle.dr_session.proofs.react.turning.leave_aborting.Goals as goal

pub returns-clause-done : goal.returns-clause-done
returns-clause-done g c =
    left_done g.P.DeskPort.step c.args.at c.leave_with.result c.in_ok-action.action (write (abort_pdu c.args.source c.args.reason ∷ [])) c.mark_aborted.result (aborted c.args.core) c.args.port.now c.leave_with.new.port
    c.in_ok-action.ensures c.mark_aborted.ensures c.leave_with.ensures.done

pub returns-clause-broke : goal.returns-clause-broke
returns-clause-broke g c =
    left_broke g.P.DeskPort.step c.args.at c.leave_with.result c.in_ok-action.action (write (abort_pdu c.args.source c.args.reason ∷ [])) c.mark_aborted.result (aborted c.args.core) c.args.port.now c.leave_with.new.port
    c.in_ok-action.ensures c.mark_aborted.ensures c.leave_with.ensures.broke

pub returns-in_err-action-clause-broke : goal.returns-in_err-action-clause-broke
returns-in_err-action-clause-broke g c =
    broke_at g.P.DeskPort.step (leaves c.args.at (write (abort_pdu c.args.source c.args.reason ∷ []) ∷ []) (aborted c.args.core)) c.from_residual.result c.args.port.now
    (leaves_write (aborted c.args.core).pending c.args.at.now (write (abort_pdu c.args.source c.args.reason ∷ [])) (aborted c.args.core))
