use Rattle.std.proofs.Common.{◌≡◌, ℕ, List, Vec, Global, map as mapped, sym, subst}
use Rattle.sqlite.specs.Held.{state}
use Rattle.sqlite.specs.Tree.{Trees}
use Rattle.dr_ledger_history.specs.Lines.{line_of}
use Rattle.dr_ledger_history.specs.declared.line.JournalLine.{JournalLine}
use Rattle.dr_store_schema.specs.Books.{lines_of}
use Rattle.dr_store_lists.specs.declared.listing.JournalRow.{JournalRow}
use Rattle.dr_store_lists.specs.Lists.{IsJournal}
use Rattle.dr_store_calls.proofs.Calls.{asked_looked}
use Rattle.dr_store.proofs.Looks.{failed_as, looked_both, of_ledger}
use Rattle.dr_store.proofs.telling.tell_journal.Goals as goal

pub returns-in-Ok-clause-looked : goal.returns-in-Ok-clause-looked
returns-in-Ok-clause-looked g c n part =
    let slice = c.as_slice.result.now in
    let old = state g.S.Store c.args.conn.now in
    let mid = state g.S.Store c.all_notes.new.conn in
    let new = state g.S.Store c.tell_notes.new.conn in
    let Shows : Trees → Vec (ℕ × JournalRow) Global → Type 0 = λ base notes. IsJournal base notes.items in
    let Then : Trees → List JournalLine → Type 0 = λ base all. IsJournal base slice → mapped line_of all ≡ lines_of base in
    let Says : Trees → List JournalLine → Type 0 = λ base all. mapped line_of all ≡ lines_of base in
    looked_both n part old mid new Shows c.in-Ok.notes c.tell_notes.result Then Says (asked_looked n part _ old mid Shows (of_ledger _ old mid (Shows old.now.trees) c.in-Ok.ensures.asked)) (c.tell_notes.ensures.looked n part)
    (λ base past l shown all then. then (subst (IsJournal base) (sym c.as_slice.ensures.value) shown))

pub returns-in-Err-clause-looked : goal.returns-in-Err-clause-looked
returns-in-Err-clause-looked g c n part =
    let old = state g.S.Store c.args.conn.now in
    let new = state g.S.Store c.all_notes.new.conn in
    let Shows : Trees → Vec (ℕ × JournalRow) Global → Type 0 = λ base notes. IsJournal base notes.items in
    let Says : Trees → List JournalLine → Type 0 = λ base all. mapped line_of all ≡ lines_of base in
    failed_as n part c.in-Err.fault old new Shows Says (asked_looked n part _ old new Shows (of_ledger _ old new (Shows old.now.trees) c.in-Err.ensures.asked))
