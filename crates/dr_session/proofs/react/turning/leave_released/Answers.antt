use Rattle.std.proofs.Common.{[], ◌∷◌, ap, ◌∙◌}
use Rattle.dr_pdu.specs.declared.pdu.Pdu.TheVariants.{ReleaseRp}
use Rattle.dr_ulstate.specs.declared.table.Event.TheVariants.{ReleaseResponse}
use Rattle.dr_session.specs.declared.ends.Core.{Core}
use Rattle.dr_session.specs.Reactions.{released, stepped_by, write}
use Rattle.dr_session.proofs.Acting.{left_done, left_broke}
use Rattle.dr_session.specs.Reactions.{leaves}
use Rattle.dr_session.proofs.Wanting.{broke_at, leaves_write}
use Rattle.dr_session.proofs.react.turning.leave_released.Goals as goal

pub returns-clause-done : goal.returns-clause-done
returns-clause-done g c =
    left_done g.P.DeskPort.step c.args.at c.leave_with.result c.in_ok-action.action (write (ReleaseRp ∷ [])) c.mark_released-core.result (released (stepped_by ReleaseResponse c.args.at.now c.args.core)) c.args.port.now c.leave_with.new.port
    c.in_ok-action.ensures (c.mark_released-core.ensures ∙ ap (λ (x : Core). released x) c.respond.ensures) c.leave_with.ensures.done

pub returns-clause-broke : goal.returns-clause-broke
returns-clause-broke g c =
    left_broke g.P.DeskPort.step c.args.at c.leave_with.result c.in_ok-action.action (write (ReleaseRp ∷ [])) c.mark_released-core.result (released (stepped_by ReleaseResponse c.args.at.now c.args.core)) c.args.port.now c.leave_with.new.port
    c.in_ok-action.ensures (c.mark_released-core.ensures ∙ ap (λ (x : Core). released x) c.respond.ensures) c.leave_with.ensures.broke

pub returns-in_err-action-clause-broke : goal.returns-in_err-action-clause-broke
returns-in_err-action-clause-broke g c =
    let after = released (stepped_by ReleaseResponse c.args.at.now c.args.core) in
    broke_at g.P.DeskPort.step (leaves c.args.at (write (ReleaseRp ∷ []) ∷ []) after) c.from_residual.result c.args.port.now (leaves_write after.pending c.args.at.now (write (ReleaseRp ∷ [])) after)
