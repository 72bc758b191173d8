use Rattle.dr_run_answer.specs.Answers.{age_of}
use Rattle.dr_run_answer.proofs.Chained.{one_more}
use Rattle.dr_run_answer.proofs.figures.put_each_age.Goals as goal

pub loop-queue-preserved : goal.loop-queue-preserved
loop-queue-preserved c =
    one_more age_of c.args.queues.now c.loop-queue.queue-index
    c.queue-item.result c.queue-item.result
    c.args.out.now.items c.loop-queue.out.items c.put_age.new.out.items
    c.loop-queue-test.true c.queue-item.is c.loop-queue.invariant
    c.in_ok-put_age.ensures
