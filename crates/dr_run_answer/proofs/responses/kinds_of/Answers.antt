use Rattle.dr_run_answer.proofs.Statuses.{all_kinds, one_kind_more}
use Rattle.dr_run_answer.proofs.responses.kinds_of.Goals as goal

pub loop-line-preserved : goal.loop-line-preserved
loop-line-preserved c =
    one_kind_more c.args.caller.now c.args.lines.now c.loop-line.line-index c.line-item.result c.line-item.result
    c.loop-line.count c.kind_in.result c.saturating_add-count.result
    c.loop-line-test.true c.line-item.is c.loop-line.invariant c.kind_in.ensures c.saturating_add-count.ensures

pub returns : goal.returns
returns c = all_kinds c.args.caller.now c.args.lines.now c.loop-line.line-index c.loop-line.count c.loop-line-test.false c.loop-line.invariant
