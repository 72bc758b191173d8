use Rattle.std.proofs.Common.{refl, sym, ◌∙◌}
use Rattle.std.proofs.lemmas.Bool.{false≢true}
use Rattle.dr_world.proofs.Orders.{none_refuse, one_refuses, one_refuses_not, refuses_all}
use Rattle.dr_world.proofs.playing.has_refusal.Goals as goal

pub loop-order-init : goal.loop-order-init
loop-order-init c = none_refuse c.args.orders.now

pub loop-order-preserved : goal.loop-order-preserved
loop-order-preserved c = one_refuses_not c.args.orders.now c.loop-order.order-index c.order-item.result c.loop-order-test.true c.order-item.is c.loop-order.invariant
    (λ it. false≢true (sym c.if-is_refusal.false ∙ c.is_refusal.ensures.1 it))

pub returns-then-is_refusal : goal.returns-then-is_refusal
returns-then-is_refusal c = (
  λ so. one_refuses c.args.orders.now c.loop-order.order-index c.order-item.result c.loop-order-test.true c.order-item.is (c.is_refusal.ensures.0 c.if-is_refusal.true),
  λ told. refl,
)

pub returns : goal.returns
returns c = (
  λ so. absurd (false≢true so),
  λ told. absurd (c.loop-order.invariant (refuses_all c.args.orders.now c.loop-order.order-index c.loop-order-test.false told)),
)
