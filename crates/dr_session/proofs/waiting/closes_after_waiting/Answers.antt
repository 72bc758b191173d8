use Rattle.dr_session.proofs.Idle.{closes}
use Rattle.dr_session.proofs.waiting.closes_after_waiting.Goals as goal

pub returns : goal.returns
returns g c = closes g.P.DeskPort.step
