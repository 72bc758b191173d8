use Rattle.std.proofs.Common.{◌≡◌, ◌+◌, ◌^◌, ◌<◌, ◌++◌, ℕ, List, length, take, All}
use Rattle.dr_ledger_history.specs.Lines.{lines_of}
use Rattle.dr_store_past.specs.declared.lines.PastLine.{PastLine}
use Rattle.dr_store_past.specs.Lines.{IsHeldPast, all_said, texts_behind}
use Rattle.dr_store_past.proofs.reading.push_lines.Given as goal

abbrev pub invariant-loop-text : goal.invariant-loop-text
invariant-loop-text l =
    (n : ℕ) (lines : List PastLine)
    → All IsHeldPast lines → n + length lines < 2 ^ 64 → l.texts ≡ texts_behind n lines
    → lines_of l.found ≡ lines_of l.initial.found ++ all_said (take l.text-index lines)
