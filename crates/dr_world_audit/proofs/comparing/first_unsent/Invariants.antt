use Rattle.std.proofs.Common.{Contains, take}
use Rattle.dr_world_audit.specs.Comparing.{IsUnsent}
use Rattle.dr_world_audit.specs.declared.hop.AuditHop.{AuditHop as Held}
use Rattle.dr_world_audit.proofs.comparing.first_unsent.Given as goal

abbrev pub invariant-loop-hop : goal.invariant-loop-hop
invariant-loop-hop l = (hop : Held) → Contains (take l.hop-index l.came) hop → IsUnsent l.ours.keys l.sent hop → ⊥
