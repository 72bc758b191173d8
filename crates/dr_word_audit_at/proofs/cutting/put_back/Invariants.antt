use Rattle.std.proofs.Common.{◌≡◌, ◌++◌, reverse, vec_len}
use Rattle.dr_word_audit_at.proofs.cutting.put_back.Given as goal

abbrev pub invariant-loop-line : goal.invariant-loop-line
invariant-loop-line l = l.fn.lines.items ++ reverse l.fn.rest.items ≡ l.lines.items ++ reverse l.rest.items

abbrev pub decreases-loop-line : goal.decreases-loop-line
decreases-loop-line l = vec_len l.rest
