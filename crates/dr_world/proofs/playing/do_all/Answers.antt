use Rattle.dr_world.specs.Orders.{OrdersChange}
use Rattle.dr_world.specs.Played.{EndsEarly}
use Rattle.dr_world.proofs.Founded.{passed_on}
use Rattle.dr_world.proofs.Orders.{all_ordered, none_ordered, one_ordered, orders_early}
use Rattle.dr_world.proofs.playing.do_all.Goals as goal

pub loop-order-init : goal.loop-order-init
loop-order-init c = (none_ordered c.args.world.now c.args.orders.now c.no_notes-notes.result c.no_notes-notes.ensures, c.requires)

pub loop-order-preserved : goal.loop-order-preserved
loop-order-preserved c = (
  one_ordered c.args.world.now c.loop-order.world c.do_order.new.world c.args.orders.now c.loop-order.order-index c.order-item.result c.loop-order.notes c.do_order.new.notes c.loop-order-test.true c.order-item.is c.loop-order.invariant.0
      c.in_ok-do_order.ensures.plays,
  c.in_ok-do_order.ensures.whole,
)

pub returns-clause-plays : goal.returns-clause-plays
returns-clause-plays c = all_ordered c.args.world.now c.loop-order.world c.args.orders.now c.loop-order.order-index c.loop-order.notes c.loop-order-test.false c.loop-order.invariant.0

pub returns-in_err-do_order-clause-early : goal.returns-in_err-do_order-clause-early
returns-in_err-do_order-clause-early c =
    passed_on c.from_residual.result c.in_err-do_order.field-0.0 (EndsEarly (OrdersChange c.args.orders.now)) c.from_residual.ensures.1
    (orders_early c.args.orders.now c.loop-order.order-index c.order-item.result c.in_err-do_order.field-0.0 c.loop-order-test.true c.order-item.is c.in_err-do_order.ensures.early)
