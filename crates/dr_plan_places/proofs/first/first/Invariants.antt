use Rattle.std.proofs.Common.{take, All}
use Rattle.dr_plan_places.proofs.first.first.Given as goal

abbrev pub invariant-loop-index : goal.invariant-loop-index
invariant-loop-index g l = All (g.L.Look.is_free l.fn.look) (take l.index l.fn.values)
