use Rattle.dr_session.proofs.Joining.{joins, joins_all}
use Rattle.dr_session.proofs.laws.joins_pieces.Goals as goal

pub returns : goal.returns
returns g c = record { two = joins g.P.DeskPort.step; all = joins_all g.P.DeskPort.step }
