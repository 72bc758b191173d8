use Rattle.std.proofs.Common.{sym}
use Rattle.std.proofs.lemmas.List.{append-nil}
use Rattle.dr_word_simulate.proofs.Reporting.{refusal_more, refusals_all}
use Rattle.dr_word_simulate.proofs.telling.tell_refusals.Goals as goal

pub loop-refused-init : goal.loop-refused-init
loop-refused-init c = sym (append-nil c.args.out.now.items)

pub loop-refused-preserved : goal.loop-refused-preserved
loop-refused-preserved c =
    refusal_more c.args.refusals.now c.loop-refused.refused-index c.refused-item.result c.args.out.now.items c.loop-refused.out.items c.tell_refusal.new.out.items c.loop-refused-test.true c.refused-item.is c.loop-refused.invariant
    c.in_ok-tell_refusal.ensures

pub returns : goal.returns
returns c = refusals_all c.args.refusals.now c.loop-refused.refused-index c.args.out.now.items c.loop-refused.out.items c.loop-refused-test.false c.loop-refused.invariant
