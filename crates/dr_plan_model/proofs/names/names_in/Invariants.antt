use Rattle.std.proofs.Common.{◌≡◌, map, take}
use Rattle.dr_plan_model.proofs.names.names_in.Given as goal

abbrev pub invariant-loop-node : goal.invariant-loop-node
invariant-loop-node l = l.names.items ≡ map (λ node. node.name) (take l.node-index l.fn.plan.nodes)
