use Rattle.std.specs.Prelude.{drop}
use Rattle.dr_run_serve.proofs.InTurn.{TowardAll}
use Rattle.dr_run_serve.specs.Visits.{Visits}
use Rattle.dr_run_serve.proofs.sending.visit_each.Given as goal

abbrev pub invariant-loop-hop : goal.invariant-loop-hop
invariant-loop-hop g l = TowardAll (λ hop s came t. Visits (g.N.Network.connects l.network) g.N.Socket.Link.hears g.N.Socket.Link.sends g.N.Socket.Link.closes g.P.DeskPort.step g.P.Tallied.finds g.P.Tallied.taken (g.C.Clock.tells l.clock) l.site hop.dest hop.address s came t) l.initial.port l.hops l.port (drop l.hop-index l.hops)
