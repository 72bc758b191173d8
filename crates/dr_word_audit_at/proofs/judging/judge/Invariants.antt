use Rattle.std.proofs.Common.{◌≡◌, length}
use Rattle.dr_word_audit_at.specs.Cuts.{AreReached}
use Rattle.dr_word_audit_at.proofs.judging.judge.Given as goal

abbrev pub invariant-loop-round : goal.invariant-loop-round
invariant-loop-round l = AreReached l.fn.sealed.plan l.fn.read.items l.fn.first.items l.counts.items × (length l.counts.items ≡ length l.fn.read.items) × (l.left.items ≡ l.fn.read.items)
