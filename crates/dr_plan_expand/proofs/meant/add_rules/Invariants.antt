use Rattle.std.proofs.Common.{◌≡◌, ◌++◌, take, map}
use Rattle.dr_plan_expand.specs.Meanings.{rule_of}
use Rattle.dr_plan_expand.proofs.meant.add_rules.Given as goal

abbrev pub invariant-loop-class : goal.invariant-loop-class
invariant-loop-class l = l.out.items ≡ l.initial.out.items ++ map (rule_of l.rule l.to l.from) (take l.class-index l.classes)
