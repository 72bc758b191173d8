use Rattle.std.proofs.Common.{◌≡◌, ℕ, List, Vec, Global, map as mapped, sym, subst}
use Rattle.sqlite.specs.Held.{state}
use Rattle.sqlite.specs.Tree.{Trees}
use Rattle.dr_base.specs.Texts.{Text}
use Rattle.dr_ledger_history.specs.Lines.{line_of}
use Rattle.dr_ledger_history.specs.declared.line.JournalLine.{JournalLine}
use Rattle.dr_ledger_views.specs.Numbers.{counted, lines_within}
use Rattle.dr_store_audit.specs.Journal.{lines_told}
use Rattle.dr_store_calls.proofs.Calls.{asked_looked}
use Rattle.dr_store_calls.proofs.Reading.{reads_as}
use Rattle.dr_store_views.specs.Spans.{AreGoalsWithin, AreNotesWithin, numbered_of}
use Rattle.dr_store.proofs.Looks.{failed_as, looked_more}
use Rattle.dr_store.proofs.Within.{told_within}
use Rattle.dr_store.proofs.telling.tell_notes_behind.Goals as goal

pub returns-in-Ok-clause-looked : goal.returns-in-Ok-clause-looked
returns-in-Ok-clause-looked g c n part =
    let notes = c.args.notes.now in
    let goals = c.as_slice.result.now in
    let after = c.args.after in
    let last = c.args.last in
    let r = c.lines_by.result in
    let old = state g.S.Store c.args.conn.now in
    let new = state g.S.Store c.goals_behind.new.conn in
    let Shows : Trees → Vec (ℕ × Text) Global → Type 0 = λ base all. AreGoalsWithin base after last all.items in
    let Says : Trees → List JournalLine → Type 0 = λ base all. AreNotesWithin base after last notes → counted after (mapped line_of all) ≡ lines_within after last (numbered_of base) in
    looked_more n part old new Shows c.in-Ok.goals r Says (asked_looked n part _ old new Shows c.in-Ok.ensures.asked)
    (λ base past l shown. reads_as r (λ (all : List JournalLine). mapped line_of all ≡ lines_told goals notes) (Says base)
    (λ all z noted. told_within base after last goals (subst (AreGoalsWithin base after last) (sym c.as_slice.ensures.value) shown) (mapped line_of all) notes noted z) c.lines_by.ensures)

pub returns-in-Err-clause-looked : goal.returns-in-Err-clause-looked
returns-in-Err-clause-looked g c n part =
    let notes = c.args.notes.now in
    let after = c.args.after in
    let last = c.args.last in
    let old = state g.S.Store c.args.conn.now in
    let new = state g.S.Store c.goals_behind.new.conn in
    let Shows : Trees → Vec (ℕ × Text) Global → Type 0 = λ base all. AreGoalsWithin base after last all.items in
    let Says : Trees → List JournalLine → Type 0 = λ base all. AreNotesWithin base after last notes → counted after (mapped line_of all) ≡ lines_within after last (numbered_of base) in
    failed_as n part c.in-Err.fault old new Shows Says (asked_looked n part _ old new Shows c.in-Err.ensures.asked)
