use Rattle.std.proofs.Common.{◌≡◌, ◌+◌, List, map as mapped, take, sym, subst}
use Rattle.dr_ledger_history.specs.Lines.{line_of}
use Rattle.dr_ledger_history.specs.declared.line.JournalLine.{JournalLine}
use Rattle.dr_store_audit.specs.Journal.{lines_told}
use Rattle.dr_store.proofs.Told.{one_more_told}
use Rattle.dr_store.proofs.telling.lines_for.Goals as goal

pub loop-note-preserved : goal.loop-note-preserved
loop-note-preserved c =
    let goals = c.args.goals.now in
    let notes = c.args.notes.now in
    let i = c.loop-note.note-index in
    let P : List JournalLine → Type 0 = λ all. mapped line_of all ≡ lines_told goals (take (i + 1) notes) in
    subst P (sym c.in_ok-push.ensures.ok) (one_more_told goals notes c.loop-note.all i c.note-item.result c.in_ok-line_for.field-0 c.loop-note-test.true c.note-item.is c.loop-note.invariant c.in_ok-line_for.ensures)
