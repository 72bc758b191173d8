use Rattle.std.proofs.Common.{ap, ◌∙◌, [], ◌∷◌}
use Rattle.dr_ulstate.specs.declared.table.Event.TheVariants.{AbortRequest}
use Rattle.dr_session.specs.declared.ends.Core.{Core}
use Rattle.dr_session.specs.Reactions.{abort_pdu, aborted, stepped_by, write}
use Rattle.dr_session.proofs.Acting.{left_done, left_broke}
use Rattle.dr_session.specs.Reactions.{aborts}
use Rattle.dr_session.proofs.Wanting.{broke_at, aborts_write}
use Rattle.dr_session.proofs.react.leaving.abort.Goals as goal

pub returns-clause-done : goal.returns-clause-done
returns-clause-done g c =
    left_done g.P.DeskPort.step c.args.at c.leave_with.result c.in_ok-action.action (write (abort_pdu 0 0 ∷ [])) c.mark_aborted.result (aborted (stepped_by AbortRequest c.args.at.now c.args.core)) c.args.port.now c.leave_with.new.port
    c.in_ok-action.ensures (c.mark_aborted.ensures ∙ ap (λ (x : Core). aborted x) c.abort.ensures) c.leave_with.ensures.done

pub returns-clause-broke : goal.returns-clause-broke
returns-clause-broke g c =
    left_broke g.P.DeskPort.step c.args.at c.leave_with.result c.in_ok-action.action (write (abort_pdu 0 0 ∷ [])) c.mark_aborted.result (aborted (stepped_by AbortRequest c.args.at.now c.args.core)) c.args.port.now c.leave_with.new.port
    c.in_ok-action.ensures (c.mark_aborted.ensures ∙ ap (λ (x : Core). aborted x) c.abort.ensures) c.leave_with.ensures.broke

pub returns-in_err-action-clause-broke : goal.returns-in_err-action-clause-broke
returns-in_err-action-clause-broke g c = broke_at g.P.DeskPort.step (aborts c.args.at c.args.core) c.from_residual.result c.args.port.now (aborts_write c.args.at c.args.core)
