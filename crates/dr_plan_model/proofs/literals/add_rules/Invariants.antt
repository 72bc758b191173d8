use Rattle.std.proofs.Common.{◌⊎◌, ◌↔◌, take, Contains}
use Rattle.dr_base.specs.Texts.{Text}
use Rattle.dr_route.specs.Names.{HasName}
use Rattle.dr_plan_model.specs.Naming.{named_by_rules}
use Rattle.dr_plan_model.proofs.literals.add_rules.Given as goal

abbrev pub invariant-loop-rule : goal.invariant-loop-rule
invariant-loop-rule l = (t : Text) → HasName l.names t ↔ (HasName l.initial.names t ⊎ Contains (named_by_rules l.attribute (take l.rule-index l.rules)) t)
