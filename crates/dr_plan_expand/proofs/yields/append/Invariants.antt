use Rattle.std.proofs.Common.{◌≡◌, ◌++◌}
use Rattle.std.specs.Vec.Iter.{into_iter_items}
use Rattle.dr_plan_expand.proofs.yields.append.Given as goal

abbrev pub invariant-loop-thing : goal.invariant-loop-thing
invariant-loop-thing g l = l.out.items ++ into_iter_items l.thing-iterator ≡ l.initial.out.items ++ l.fn.things
