use Rattle.std.proofs.Common.{sym}
use Rattle.std.proofs.lemmas.List.{append-nil}
use Rattle.dr_word_simulate.proofs.Reporting.{note_more, notes_all}
use Rattle.dr_word_simulate.proofs.telling.tell_changes.Goals as goal

pub loop-change-init : goal.loop-change-init
loop-change-init c = sym (append-nil c.args.out.now.items)

pub loop-change-preserved : goal.loop-change-preserved
loop-change-preserved c =
    note_more c.args.changes.now c.loop-change.change-index c.change-item.result c.args.out.now.items c.loop-change.out.items c.tell_change.new.out.items c.loop-change-test.true c.change-item.is c.loop-change.invariant
    c.in_ok-tell_change.ensures

pub returns : goal.returns
returns c = notes_all c.args.changes.now c.loop-change.change-index c.args.out.now.items c.loop-change.out.items c.loop-change-test.false c.loop-change.invariant
