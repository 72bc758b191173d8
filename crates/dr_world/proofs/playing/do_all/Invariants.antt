use Rattle.std.proofs.Common.{◌≡◌, None, take}
use Rattle.dr_world.proofs.Orders.{SoFar}
use Rattle.dr_world.proofs.playing.do_all.Given as goal

-- the orders so far, with what was noted of them; none has failed
abbrev pub invariant-loop-order : goal.invariant-loop-order
invariant-loop-order l = SoFar l.fn.world (take l.order-index l.orders) l.notes l.world × (l.world.lost ≡ None)
