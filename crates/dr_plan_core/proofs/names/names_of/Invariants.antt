use Rattle.std.proofs.Common.{map, take}
use Rattle.dr_plan_text.specs.declared.words.NodeText.{NodeText}
use Rattle.dr_plan_text.proofs.Repeats.{Seen}
use Rattle.dr_plan_core.proofs.names.names_of.Given as goal

abbrev pub invariant-loop-node : goal.invariant-loop-node
invariant-loop-node l = Seen l.seen (take l.node-index (map (λ (node : NodeText). node.name) l.nodes))
