use Rattle.std.proofs.Common.{◌≡◌, ℕ, List, Vec, Global, map as mapped, sym, subst}
use Rattle.sqlite.specs.Held.{state}
use Rattle.sqlite.specs.Tree.{Trees}
use Rattle.dr_ledger_history.specs.Lines.{line_of}
use Rattle.dr_ledger_history.specs.declared.line.JournalLine.{JournalLine}
use Rattle.dr_ledger_views.specs.Numbers.{counted, lines_within}
use Rattle.dr_store_lists.specs.declared.listing.JournalRow.{JournalRow}
use Rattle.dr_store_calls.proofs.Calls.{asked_looked}
use Rattle.dr_store_views.specs.Spans.{AreNotesWithin, numbered_of}
use Rattle.dr_store.proofs.Looks.{failed_as, looked_both}
use Rattle.dr_store.proofs.telling.tell_within.Goals as goal

pub returns-in-Ok-clause-looked : goal.returns-in-Ok-clause-looked
returns-in-Ok-clause-looked g c n part =
    let after = c.args.after in
    let last = c.args.last in
    let notes = c.as_slice.result.now in
    let old = state g.S.Store c.args.conn.now in
    let mid = state g.S.Store c.notes_behind.new.conn in
    let new = state g.S.Store c.tell_notes_behind.new.conn in
    let Shows : Trees → Vec (ℕ × JournalRow) Global → Type 0 = λ base all. AreNotesWithin base after last all.items in
    let Then : Trees → List JournalLine → Type 0 = λ base all. AreNotesWithin base after last notes → counted after (mapped line_of all) ≡ lines_within after last (numbered_of base) in
    let Says : Trees → List JournalLine → Type 0 = λ base all. counted after (mapped line_of all) ≡ lines_within after last (numbered_of base) in
    looked_both n part old mid new Shows c.in-Ok.notes c.tell_notes_behind.result Then Says (asked_looked n part _ old mid Shows c.in-Ok.ensures.asked) (c.tell_notes_behind.ensures.looked n part)
    (λ base past l shown all then. then (subst (AreNotesWithin base after last) (sym c.as_slice.ensures.value) shown))

pub returns-in-Err-clause-looked : goal.returns-in-Err-clause-looked
returns-in-Err-clause-looked g c n part =
    let after = c.args.after in
    let last = c.args.last in
    let old = state g.S.Store c.args.conn.now in
    let new = state g.S.Store c.notes_behind.new.conn in
    let Shows : Trees → Vec (ℕ × JournalRow) Global → Type 0 = λ base all. AreNotesWithin base after last all.items in
    let Says : Trees → List JournalLine → Type 0 = λ base all. counted after (mapped line_of all) ≡ lines_within after last (numbered_of base) in
    failed_as n part c.in-Err.fault old new Shows Says (asked_looked n part _ old new Shows c.in-Err.ensures.asked)
