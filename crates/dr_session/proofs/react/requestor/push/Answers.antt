use Rattle.std.proofs.Common.{Some, Ok}
use Rattle.dr_session.specs.Desks.{Upcoming}
use Rattle.dr_session.specs.Reactions.{pushes}
use Rattle.dr_session.proofs.Wanting.{broke_at, pushes_write}
use Rattle.std.proofs.Common.{inr}
use Rattle.dr_session.proofs.InTurn.{on_err}
use Rattle.dr_session.proofs.react.requestor.push.Goals as goal

pub returns-in_ok-done-in-Ok-Some-clause-done : goal.returns-in_ok-done-in-Ok-Some-clause-done
returns-in_ok-done-in-Ok-Some-clause-done g c =
    (Upcoming (Ok (Some c.in-Ok-Some.row)), c.next.new.self, rw (c.in-Ok-Some.field-0-is, c.peer.ensures) at c.in-Ok-Some.ensures, c.in_ok-done-in-Ok-Some.ensures.done)

pub returns-in_err-acts-clause-broke : goal.returns-in_err-acts-clause-broke
returns-in_err-acts-clause-broke g c = broke_at g.P.DeskPort.step (pushes c.args.at c.args.core) c.from_residual.result c.args.port.now (pushes_write c.args.at c.args.core)

pub returns-in_err-done-in-Ok-Some-clause-broke : goal.returns-in_err-done-in-Ok-Some-clause-broke
returns-in_err-done-in-Ok-Some-clause-broke g c = on_err _ _
    (inr (Upcoming (Ok (Some c.in-Ok-Some.row)), c.next.new.self, rw (c.in-Ok-Some.field-0-is, c.peer.ensures) at c.in-Ok-Some.ensures, c.in_err-done-in-Ok-Some.ensures.broke))
