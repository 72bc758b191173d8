use Rattle.dr_run_answer.specs.Answers.{brought_of}
use Rattle.dr_run_answer.proofs.Chained.{one_more}
use Rattle.dr_run_answer.proofs.intake.put_each_brought.Goals as goal

pub loop-brought-preserved : goal.loop-brought-preserved
loop-brought-preserved c =
    one_more brought_of c.args.callers.now c.loop-brought.brought-index
    c.brought-item.result c.brought-item.result
    c.args.out.now.items c.loop-brought.out.items c.put_brought.new.out.items
    c.loop-brought-test.true c.brought-item.is c.loop-brought.invariant
    c.in_ok-put_brought.ensures
