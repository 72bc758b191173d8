use Rattle.std.proofs.Common.{◌≡◌, take, map}
use Rattle.std.specs.Prelude.{flat_map}
use Rattle.dr_plan_expand.specs.Meanings.{rule_of}
use Rattle.dr_plan_expand.proofs.meant.rules_with.Given as goal

abbrev pub invariant-loop-from : goal.invariant-loop-from
invariant-loop-from l = l.rules.items ≡ flat_map (λ from. map (rule_of l.rule l.to from) l.classes) (take l.from-index l.froms)
