use Rattle.std.proofs.Common.{◌≡◌, ◌+◌, take, sum_by}
use Rattle.dr_plan_places.proofs.excess.over_in.Given as goal

abbrev pub invariant-loop-index : goal.invariant-loop-index
invariant-loop-index g l = sum_by (g.A.Amounting.amount l.fn.way) (take l.index l.fn.elements) + l.left ≡ l.fn.room
