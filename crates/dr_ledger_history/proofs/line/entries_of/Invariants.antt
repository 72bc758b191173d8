use Rattle.std.proofs.Common.{◌≡◌, map as mapped, take}
use Rattle.dr_ledger.specs.Replies.{entry_of}
use Rattle.dr_ledger_history.specs.declared.line.JournalLine.{JournalLine}
use Rattle.dr_ledger_history.specs.Lines.{line_of}
use Rattle.dr_ledger_history.proofs.line.entries_of.Given as goal

abbrev pub invariant-loop-line : goal.invariant-loop-line
invariant-loop-line l = l.all ≡ mapped (λ (line : JournalLine). entry_of (line_of line)) (take l.line-index l.lines)
