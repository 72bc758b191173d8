use Rattle.dr_session.specs.Reactions.{refuses}
use Rattle.dr_session.proofs.Wanting.{broke_at, refuses_write}
use Rattle.dr_session.proofs.Wanting.{refused_broke}
use Rattle.dr_session.proofs.react.requestor.refuse.Goals as goal

pub returns-in_err-acts-clause-broke : goal.returns-in_err-acts-clause-broke
returns-in_err-acts-clause-broke g c = broke_at g.P.DeskPort.step (refuses c.args.at c.args.core) c.from_residual.result c.args.port.now (refuses_write c.args.at c.args.core)

pub returns-in-Ok-Some-clause-broke : goal.returns-in-Ok-Some-clause-broke
returns-in-Ok-Some-clause-broke g c =
    refused_broke g.P.DeskPort.step c.args.at c.args.core c.in-Ok-Some.uid c.settle_refused.result c.args.port.now c.due.new.self c.settle_refused.new.port
    (rw (c.in-Ok-Some.field-0-is, c.peer.ensures) at c.in-Ok-Some.ensures) c.settle_refused.ensures.broke
