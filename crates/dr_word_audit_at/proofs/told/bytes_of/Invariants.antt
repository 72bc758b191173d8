use Rattle.std.proofs.Common.{◌≡◌}
use Rattle.dr_word_audit_at.proofs.told.bytes_of.Given as goal

abbrev pub invariant-loop-character : goal.invariant-loop-character
invariant-loop-character l = l.bytes.items ≡ l.yielded
