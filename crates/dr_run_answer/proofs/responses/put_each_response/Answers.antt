use Rattle.dr_run_answer.specs.Responses.{response_figure}
use Rattle.dr_run_answer.proofs.Chained.{one_more}
use Rattle.dr_run_answer.proofs.responses.put_each_response.Goals as goal

pub loop-line-preserved : goal.loop-line-preserved
loop-line-preserved c =
    one_more response_figure c.args.lines.now c.loop-line.line-index
    c.line-item.result c.line-item.result
    c.args.out.now.items c.loop-line.out.items c.put_response.new.out.items
    c.loop-line-test.true c.line-item.is c.loop-line.invariant
    c.in_ok-put_response.ensures
