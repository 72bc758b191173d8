use Rattle.dr_word_audit_at.specs.Firsts.{AreFirst}
use Rattle.dr_word_audit_at.proofs.moving.first_lines.Given as goal

abbrev pub invariant-loop-i : goal.invariant-loop-i
invariant-loop-i l = AreFirst l.fn.lines l.i l.first
