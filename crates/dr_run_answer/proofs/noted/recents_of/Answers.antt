use Rattle.dr_run_answer.proofs.Lines.{all_summed, next, none_yet}
use Rattle.dr_run_answer.proofs.noted.recents_of.Goals as goal

pub loop-one-init : goal.loop-one-init
loop-one-init c = none_yet c.args.now c.args.minutes.now c.new-lines.result.items c.new-lines.ensures.items

pub loop-one-preserved : goal.loop-one-preserved
loop-one-preserved c =
    next c.args.now c.args.minutes.now c.loop-one.one-index c.one-item.result c.one-item.result c.loop-one.lines.items c.add_recent.new.lines.items c.loop-one-test.true c.one-item.is c.loop-one.invariant
    c.in_ok-add_recent.ensures

pub returns : goal.returns
returns c = all_summed c.args.now c.args.minutes.now c.loop-one.one-index c.loop-one.lines.items c.loop-one-test.false c.loop-one.invariant
