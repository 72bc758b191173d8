use Rattle.std.proofs.Common.{◌≡◌, ◌++◌, take, map}
use Rattle.dr_plan_expand.specs.Spelling.{starred}
use Rattle.dr_plan_expand.proofs.pieces.add_starred.Given as goal

abbrev pub invariant-loop-prefix : goal.invariant-loop-prefix
invariant-loop-prefix l = l.out.items ≡ l.initial.out.items ++ map starred (take l.prefix-index l.prefixes)
