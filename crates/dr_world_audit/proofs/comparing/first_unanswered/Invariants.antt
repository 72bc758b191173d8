use Rattle.std.proofs.Common.{Contains, take}
use Rattle.dr_world_audit.specs.Comparing.{IsUnanswered}
use Rattle.dr_world_audit.specs.declared.hop.AuditHop.{AuditHop as Held}
use Rattle.dr_world_audit.proofs.comparing.first_unanswered.Given as goal

abbrev pub invariant-loop-hop : goal.invariant-loop-hop
invariant-loop-hop l = (hop : Held) → Contains (take l.hop-index l.done) hop → IsUnanswered l.ours.keys l.came hop → ⊥
