use Rattle.std.proofs.Common.{refl, arith}
use Rattle.std.proofs.lemmas.Bool.{false≢true}
use Rattle.dr_plan_expand.proofs.Finding.{seeks_start, seeks_more, sought, not_sought}
use Rattle.dr_plan_expand.proofs.find.first.Goals as goal

pub loop-item-init : goal.loop-item-init
loop-item-init g c = seeks_start (g.T.Test.holds c.args.test.now) c.args.items.now

pub loop-item-preserved : goal.loop-item-preserved
loop-item-preserved g c =
    seeks_more (g.T.Test.holds c.args.test.now) c.args.items.now c.loop-item.item-index c.item-item.result c.loop-item-test.true c.item-item.is
    (λ is. false≢true (c.if-test.ensures.1 is)) c.loop-item.invariant

pub returns-then-test : goal.returns-then-test
returns-then-test g c =
    sought (g.T.Test.holds c.args.test.now) c.args.items.now c.loop-item.item-index c.item-item.result c.loop-item-test.true c.item-item.is (c.if-test.ensures.0 refl) c.loop-item.invariant

pub returns : goal.returns
returns g c = not_sought (g.T.Test.holds c.args.test.now) c.args.items.now c.loop-item.item-index (omega arith) c.loop-item.invariant
