use Rattle.dr_word_list.proofs.Chain.{each_more}
use Rattle.dr_word_list.proofs.requeuing_all.requeue_each.Goals as goal

pub loop-uid-preserved : goal.loop-uid-preserved
loop-uid-preserved g c = (
  λ s. c.loop-uid.invariant.0 (c.in_ok-requeue.ensures.stood s),
  λ s. each_more c.args.uids.now c.loop-uid.uid-index c.uid-item.result c.args.dest.now (g.L.Ledger.book c.args.ledger.now) (g.L.Ledger.book c.loop-uid.ledger) (g.L.Ledger.book c.requeue.new.self)
      c.loop-uid-test.true c.uid-item.is (c.loop-uid.invariant.1 (c.in_ok-requeue.ensures.stood s)) (c.in_ok-requeue.ensures.reply s),
)
