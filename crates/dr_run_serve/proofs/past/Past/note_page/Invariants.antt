use Rattle.std.proofs.Common.{List, ◌++◌, take}
use Rattle.dr_ledger_history.specs.declared.line.JournalLine.{JournalLine}
use Rattle.dr_run_serve.specs.Pasts.{HasNoted}
use Rattle.dr_run_serve.proofs.past.Past.note_page.Given as goal

abbrev pub invariant-loop-line : goal.invariant-loop-line
invariant-loop-line l = (lines : List JournalLine) → HasNoted lines l.initial.self → HasNoted (lines ++ take l.line-index l.page) l.self
