use Rattle.dr_session.specs.Reactions.{replied}
use Rattle.dr_session.proofs.Wanting.{broke_at, replies_write}
use Rattle.dr_session.proofs.react.requestor.hear_response.Goals as goal

pub returns-in_err-acts-clause-broke : goal.returns-in_err-acts-clause-broke
returns-in_err-acts-clause-broke g c =
    broke_at g.P.DeskPort.step (replied c.args.core.pending c.args.context c.args.command.now c.args.at c.args.core) c.from_residual.result c.args.port.now
    (replies_write c.args.core.pending c.args.context c.args.command.now c.args.at c.args.core)
