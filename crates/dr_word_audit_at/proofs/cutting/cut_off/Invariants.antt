use Rattle.std.proofs.Common.{◌≡◌, ◌++◌, reverse, take, vec_len}
use Rattle.dr_word_audit_at.proofs.cutting.cut_off.Given as goal

abbrev pub invariant-loop-lines : goal.invariant-loop-lines
invariant-loop-lines l = (l.lines.items ++ reverse l.rest.items ≡ l.fn.lines.items) × (take l.count l.lines.items ≡ take l.count l.fn.lines.items)

abbrev pub decreases-loop-lines : goal.decreases-loop-lines
decreases-loop-lines l = vec_len l.lines
