use Rattle.std.proofs.Common.{◌⊎◌, ◌↔◌, take, Contains}
use Rattle.std.specs.Prelude.{flat_map}
use Rattle.dr_base.specs.Texts.{Text}
use Rattle.dr_route.specs.Names.{HasName}
use Rattle.dr_plan_model.specs.declared.plan.Node.{Node}
use Rattle.dr_plan_model.specs.Naming.{named_by_rules}
use Rattle.dr_plan_model.proofs.literals.named.Given as goal

abbrev pub invariant-loop-node : goal.invariant-loop-node
invariant-loop-node l = (t : Text) → HasName l.names t ↔ (HasName l.initial.names t ⊎ Contains (flat_map (λ (n : Node). named_by_rules l.attribute n.rules) (take l.node-index l.node-items)) t)
