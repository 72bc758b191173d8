use Rattle.dr_run_page.specs.Documents.{recent_row}
use Rattle.dr_run_answer.proofs.Chained.{one_more}
use Rattle.dr_run_page.proofs.written.put_recents.Goals as goal

pub loop-recent-preserved : goal.loop-recent-preserved
loop-recent-preserved c =
    one_more recent_row c.args.recents.now c.loop-recent.recent-index
    c.recent-item.result c.recent-item.result
    c.args.out.now.items c.loop-recent.out.items c.put_recent.new.out.items
    c.loop-recent-test.true c.recent-item.is c.loop-recent.invariant
    c.in_ok-put_recent.ensures
