use Rattle.dr_session.proofs.OneWay.{sessions_go_one_way}
use Rattle.dr_session.proofs.laws.goes_one_way.Goals as goal

pub returns : goal.returns
returns g c = sessions_go_one_way g.L.Link.hears g.L.Link.sends g.L.Link.closes g.P.DeskPort.step g.C.Clock.tells
