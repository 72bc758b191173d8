use Rattle.std.specs.Prelude.{◌≤◌}
use Rattle.dr_session.specs.Sessions.{KeepsParts, place_of}
use Rattle.dr_session.proofs.Serving.{SoFar}
use Rattle.dr_session.proofs.sessions.Session.run.Given as goal

abbrev pub invariant-loop-done : goal.invariant-loop-done
invariant-loop-done g l =
    SoFar g.L.Link.hears g.L.Link.sends g.L.Link.closes g.P.DeskPort.step (g.C.Clock.tells l.initial.self.clock.now) l.initial.self.others l.kind (place_of l.initial.self l.initial.end) l._done l.reads l.asked (place_of l.self l.end)
    × (g.L.Link.failed l.initial.self.link.now ≤ g.L.Link.failed l.self.link.now)
    × KeepsParts l.initial.self l.self
