use Rattle.dr_plan_expand.proofs.Summed.{sum_more}
use Rattle.dr_plan_places.proofs.Exceeding.{over_at}
use Rattle.dr_plan_places.proofs.excess.over_in.Goals as goal

pub loop-index-preserved : goal.loop-index-preserved
loop-index-preserved g c =
    sum_more (g.A.Amounting.amount c.args.way.now) c.args.elements.now c.loop-index.index c.index-elements-index.result c.loop-index.left c.in-Some.more c.args.room
    c.loop-index-test.true c.index-elements-index.is c.loop-index.invariant c.in-Some.ensures

pub returns-in-None : goal.returns-in-None
returns-in-None g c =
    over_at (g.A.Amounting.amount c.args.way.now) c.args.elements.now c.loop-index.index c.index-elements-index.result c.loop-index.left c.args.room
    c.loop-index-test.true c.index-elements-index.is c.loop-index.invariant c.in-None.ensures
