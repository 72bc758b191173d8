-- The same numbers, of lines as a store keeps them.
use Rattle.std.specs.Prelude.{ℕ, Bool, List, filter, length}
use Rattle.dr_base.specs.Texts.{Text}
use Rattle.dr_ledger_history.specs.Lines.{line_of}
use Rattle.dr_ledger_history.specs.declared.line.JournalLine.{JournalLine}
use Rattle.dr_word_audit.specs.Figures.{is_of}
use Rattle.dr_word_audit.specs.declared.counting.LineKind.{LineKind}

-- the line is of this kind
abbrev pub is_told : LineKind → List Text → JournalLine → Bool
is_told sort others line = is_of sort others (line_of line)

-- how many of these lines are of this kind
abbrev pub number_told : LineKind → List Text → List JournalLine → ℕ
number_told sort others lines = length (filter (is_told sort others) lines)
