use Rattle.std.proofs.Common.{◌≡◌, ◌+◌, take, sum_by}
use Rattle.dr_plan_expand.proofs.amount.spend_all.Given as goal

abbrev pub invariant-loop-element : goal.invariant-loop-element
invariant-loop-element g l = sum_by (g.A.Amounting.amount l.way) (take l.element-index l.elements) + l.left ≡ l.room
