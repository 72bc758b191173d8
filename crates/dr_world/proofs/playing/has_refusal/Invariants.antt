use Rattle.std.proofs.Common.{take}
use Rattle.dr_world.specs.Orders.{OrdersRefusal}
use Rattle.dr_world.proofs.playing.has_refusal.Given as goal

-- none of those before tells a store to refuse
abbrev pub invariant-loop-order : goal.invariant-loop-order
invariant-loop-order l = OrdersRefusal (take l.order-index l.orders) → ⊥
