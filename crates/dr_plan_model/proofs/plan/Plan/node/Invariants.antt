use Rattle.std.proofs.Common.{◌≡◌, take, Contains}
use Rattle.dr_plan_model.specs.declared.plan.Node.{Node}
use Rattle.dr_plan_model.proofs.plan.Plan.node.Given as goal

abbrev pub invariant-loop-node : goal.invariant-loop-node
invariant-loop-node l = (node : Node) → Contains (take l.node-index l.node-items) node → node.name ≡ l.name → ⊥
