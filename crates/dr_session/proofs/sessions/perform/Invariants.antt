use Rattle.std.specs.Prelude.{drop, ◌≤◌}
use Rattle.dr_session.proofs.Serving.{TowardAll}
use Rattle.dr_session.proofs.sessions.perform.Given as goal

abbrev pub invariant-loop-action : goal.invariant-loop-action
invariant-loop-action g l = TowardAll g.L.Link.sends g.L.Link.closes l.initial.link l.actions l.link (drop l.action-index l.actions) × (g.L.Link.failed l.initial.link ≤ g.L.Link.failed l.link)
