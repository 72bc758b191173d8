use Rattle.std.proofs.Common.{◌⊎◌, ◌↔◌, take, Contains}
use Rattle.dr_base.specs.Texts.{Text}
use Rattle.dr_route.specs.Names.{HasName}
use Rattle.dr_plan_model.specs.Naming.{named_by_flows}
use Rattle.dr_plan_model.proofs.literals.add_flows.Given as goal

abbrev pub invariant-loop-flow : goal.invariant-loop-flow
invariant-loop-flow l = (t : Text) → HasName l.names t ↔ (HasName l.initial.names t ⊎ Contains (named_by_flows l.attribute (take l.flow-index l.flows)) t)
