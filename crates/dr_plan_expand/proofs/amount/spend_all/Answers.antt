use Rattle.dr_plan_expand.proofs.Summed.{sum_more, sum_over}
use Rattle.dr_plan_expand.proofs.amount.spend_all.Goals as goal

pub loop-element-preserved : goal.loop-element-preserved
loop-element-preserved g c =
    sum_more (g.A.Amounting.amount c.args.way.now) c.args.elements.now c.loop-element.element-index c.element-item.result c.loop-element.left c.in-Some.more c.args.room
    c.loop-element-test.true c.element-item.is c.loop-element.invariant c.in-Some.ensures

pub returns-in-None : goal.returns-in-None
returns-in-None g c =
    sum_over (g.A.Amounting.amount c.args.way.now) c.args.elements.now c.loop-element.element-index c.element-item.result c.loop-element.left c.args.room
    c.loop-element-test.true c.element-item.is c.loop-element.invariant c.in-None.ensures
