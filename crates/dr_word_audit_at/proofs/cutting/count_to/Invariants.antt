use Rattle.std.proofs.Common.{take}
use Rattle.dr_word_audit_at.specs.Cuts.{MendsNowhere}
use Rattle.dr_word_audit_at.proofs.cutting.count_to.Given as goal

abbrev pub invariant-loop-i : goal.invariant-loop-i
invariant-loop-i l = MendsNowhere l.fn.missing (take l.i l.fn.lines)
