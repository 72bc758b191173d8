use Rattle.std.proofs.Common.{drop}
use Rattle.dr_plan_expand.proofs.Finding.{Seeks}
use Rattle.dr_plan_expand.proofs.find.first.Given as goal

abbrev pub invariant-loop-item : goal.invariant-loop-item
invariant-loop-item g l = Seeks (g.T.Test.holds l.test) l.items (drop l.item-index l.items)
