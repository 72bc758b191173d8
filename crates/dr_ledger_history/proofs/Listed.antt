-- What is shown of lines.
use Rattle.std.proofs.Common.{◌≡◌, List, [], ◌∷◌, map as mapped, refl, ap}
use Rattle.dr_ledger.specs.Replies.{entry_of}
use Rattle.dr_ledger_history.specs.declared.line.JournalLine.{JournalLine}
use Rattle.dr_ledger_history.specs.Lines.{line_of, lines_of}

pub listed_lines : (lines : List JournalLine) → mapped (λ (line : JournalLine). entry_of (line_of line)) lines ≡ mapped entry_of (lines_of lines)
listed_lines [] = refl
listed_lines (line ∷ lines) = ap (λ es. entry_of (line_of line) ∷ es) (listed_lines lines)
