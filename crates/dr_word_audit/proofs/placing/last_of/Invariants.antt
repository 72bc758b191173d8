use Rattle.std.proofs.Common.{take}
use Rattle.std.specs.Prelude.{map as mapped}
use Rattle.dr_ledger_history.specs.Lines.{line_of}
use Rattle.dr_word_audit.specs.Places.{IsLast, says}
use Rattle.dr_word_audit.proofs.placing.last_of.Given as goal

abbrev pub invariant-loop-i : goal.invariant-loop-i
invariant-loop-i l = IsLast (says l.fn.mismatch) (mapped line_of (take l.i l.fn.lines)) l.found
