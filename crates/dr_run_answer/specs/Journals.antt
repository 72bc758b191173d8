-- A page of a journal, as lines: JSON's objects.
use Rattle.std.specs.Prelude.{ℕ, ◌+◌, ◌-◌, ◌^◌, min, ◌∷◌, ◌++◌, List, [], codes}
use Rattle.dr_base.specs.Texts.{Text}
use Rattle.dr_ledger_history.specs.declared.line.JournalLine.{JournalLine}
use Rattle.dr_ledger_text.specs.Lines.{begun_line}
use Rattle.dr_ledger_text.specs.Members.{number, word}
use Rattle.dr_run_answer.specs.Answers.{begun, ended}

-- whose journal it is, by which plan the node goes, and how many lines the journal has
abbrev pub journal_head : Text → Text → ℕ → Text
journal_head name plan count =
    begun (codes "node") name ++ word (codes "plan") plan ++ number (codes "lines") count ++ ended

-- a line with its number
abbrev pub line_text : ℕ → JournalLine → Text
line_text n line = begun_line n line ++ ended

-- the next number, of those of 64 bits
abbrev pub next_number : ℕ → ℕ
next_number n = min (n + 1) (2 ^ 64 - 1)

-- lines behind the one of that number
abbrev pub lines_text : ℕ → List JournalLine → Text
lines_text n [] = []
lines_text n (line ∷ lines) = line_text (next_number n) line ++ lines_text (next_number n) lines
