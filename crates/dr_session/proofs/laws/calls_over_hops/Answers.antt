use Rattle.dr_session.proofs.Hopping.{opens_over_hops, calls_over_hops}
use Rattle.dr_session.proofs.laws.calls_over_hops.Goals as goal

pub returns : goal.returns
returns g c = record {
  opens = opens_over_hops;
  calls = λ clock. calls_over_hops g.L.Link.hears g.L.Link.sends g.L.Link.closes g.P.DeskPort.step (g.C.Clock.tells clock);
}
