use Rattle.std.proofs.Common.{Contains, take}
use Rattle.std.specs.Prelude.{◌↔◌}
use Rattle.dr_base.specs.Texts.{Text}
use Rattle.dr_world_audit.specs.Sites.{AreApart, names}
use Rattle.dr_world_audit.proofs.audit.names_of.Given as goal

abbrev pub invariant-loop-node : goal.invariant-loop-node
invariant-loop-node l = ((n : Text) → Contains l.ours.keys n ↔ Contains (names (take l.node-index l.nodes)) n) × AreApart (take l.node-index l.nodes)
