use Rattle.std.proofs.Common.{sym}
use Rattle.dr_word_audit_at.proofs.Reached.{any_has, any_long, reached_on, stays}
use Rattle.dr_word_audit_at.proofs.moving.move_for_all.Goals as goal

pub loop-line-init : goal.loop-line-init
loop-line-init c plan = stays plan c.args.read.now c.args.counts.now.items

pub move_for-requires-clause-same : goal.move_for-requires-clause-same
move_for-requires-clause-same c = any_long c.args.read.now c.args.counts.now.items c.loop-line.counts.items c.loop-line.invariant c.requires.same

pub move_for-requires-clause-before : goal.move_for-requires-clause-before
move_for-requires-clause-before c =
    any_has c.args.read.now c.args.counts.now.items c.loop-line.counts.items c.loop-line.invariant c.args.name.now c.line-item.result
    (c.requires.before c.line-item.result (c.loop-line.line-index, c.loop-line-test.true, sym c.line-item.is))

pub loop-line-preserved : goal.loop-line-preserved
loop-line-preserved c plan =
    reached_on plan c.args.read.now c.args.counts.now.items c.loop-line.counts.items c.move_for.new.counts.items (c.loop-line.invariant plan) (c.in_ok-move_for.ensures plan)
