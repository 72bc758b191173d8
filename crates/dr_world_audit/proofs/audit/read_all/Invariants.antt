use Rattle.std.proofs.Common.{take}
use Rattle.dr_world_audit.specs.Sites.{AreRead}
use Rattle.dr_world_audit.proofs.audit.read_all.Given as goal

abbrev pub invariant-loop-node : goal.invariant-loop-node
invariant-loop-node l = AreRead l.sealed.plan l.ours.keys (take l.node-index l.nodes) l.fn.trail l.trail
