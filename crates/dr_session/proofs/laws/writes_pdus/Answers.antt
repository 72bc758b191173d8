use Rattle.dr_session.proofs.Spelt.{writes_pdus, gives_pdus, asks_pdus, begins_serving}
use Rattle.dr_session.proofs.laws.writes_pdus.Goals as goal

pub returns : goal.returns
returns g c = record { begins = begins_serving; turns = writes_pdus g.P.DeskPort.step; hears = gives_pdus g.P.DeskPort.step; asks = asks_pdus g.P.DeskPort.step }
