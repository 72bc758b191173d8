use Rattle.std.proofs.Common.{take}
use Rattle.dr_world_audit.specs.Hops.{grows_by}
use Rattle.dr_world_journals.specs.Hops.{to_each}
use Rattle.dr_world_audit.proofs.trail.push_each_named.Given as goal

abbrev pub invariant-loop-next : goal.invariant-loop-next
invariant-loop-next l = grows_by l.fn.hops.items (to_each l.from l.instance (take l.next-index l.to)) l.hops.items
