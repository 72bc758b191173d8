use Rattle.std.specs.Vec.Iter.{into_iter_items}
use Rattle.dr_plan_core.specs.Reading.{IsTypable}
use Rattle.dr_plan_core.specs.Spelling.{written_node}
use Rattle.dr_plan_core.proofs.Typing.{Left}
use Rattle.dr_plan_core.proofs.typed.nodes_of.Given as goal

abbrev pub invariant-loop-node : goal.invariant-loop-node
invariant-loop-node l = Left written_node IsTypable l.fn.nodes l.typed.items (into_iter_items l.node-iterator)
