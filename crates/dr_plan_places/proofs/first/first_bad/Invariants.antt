use Rattle.std.proofs.Common.{take, All}
use Rattle.dr_plan_places.proofs.first.first_bad.Given as goal

abbrev pub invariant-loop-index : goal.invariant-loop-index
invariant-loop-index g l = All (g.T.TextTest.holds l.fn.test) (take l.index l.fn.texts)
