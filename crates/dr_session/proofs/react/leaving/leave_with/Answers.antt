use Rattle.std.proofs.Common.{[], ◌∷◌}
use Rattle.dr_session.specs.Reactions.{leaves}
use Rattle.dr_session.proofs.Wanting.{broke_at, leaves_write}
use Rattle.dr_session.proofs.react.leaving.leave_with.Goals as goal

pub returns-in_err-acts-clause-broke : goal.returns-in_err-acts-clause-broke
returns-in_err-acts-clause-broke g c =
    broke_at g.P.DeskPort.step (leaves c.args.at (c.args.action ∷ []) c.args.core) c.from_residual.result c.args.port.now (leaves_write c.args.core.pending c.args.at.now c.args.action c.args.core)
