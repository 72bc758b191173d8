use Rattle.dr_session.proofs.Resting.{rests, stays_over, hears_nothing}
use Rattle.dr_session.proofs.laws.rests_when_over.Goals as goal

pub returns : goal.returns
returns g c = record { turns = rests; asks = stays_over g.P.DeskPort.step; hears = hears_nothing g.P.DeskPort.step }
