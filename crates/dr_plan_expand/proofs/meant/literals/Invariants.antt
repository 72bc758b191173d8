use Rattle.std.proofs.Common.{◌≡◌, take, map}
use Rattle.dr_route.specs.declared.rule.Pattern.TheVariants.{Literal}
use Rattle.dr_plan_expand.proofs.meant.literals.Given as goal

abbrev pub invariant-loop-text : goal.invariant-loop-text
invariant-loop-text l = l.patterns.items ≡ map Literal (take l.text-index l.texts)
