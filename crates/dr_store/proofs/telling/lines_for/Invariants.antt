use Rattle.std.proofs.Common.{◌≡◌, map as mapped, take}
use Rattle.dr_ledger_history.specs.Lines.{line_of}
use Rattle.dr_store_audit.specs.Journal.{lines_told}
use Rattle.dr_store.proofs.telling.lines_for.Given as goal

abbrev pub invariant-loop-note : goal.invariant-loop-note
invariant-loop-note l = mapped line_of l.all ≡ lines_told l.goals (take l.note-index l.notes)
