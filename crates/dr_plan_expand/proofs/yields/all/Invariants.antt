use Rattle.std.proofs.Common.{take}
use Rattle.dr_plan_expand.specs.Lists.{Yields}
use Rattle.dr_plan_expand.proofs.yields.all.Given as goal

abbrev pub invariant-loop-element : goal.invariant-loop-element
invariant-loop-element g l = Yields (g.Y.Yielding.yields l.way) (take l.element-index l.elements) l.out.items
