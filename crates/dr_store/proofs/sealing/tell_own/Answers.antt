use Rattle.std.proofs.Common.{◌≡◌, ◌∙◌, ℕ, List, Vec, Global, map as mapped, ap, subst}
use Rattle.sqlite.specs.Held.{state}
use Rattle.sqlite.specs.Tree.{Trees}
use Rattle.dr_ledger_history.specs.Lines.{line_of}
use Rattle.dr_ledger_history.specs.declared.line.JournalLine.{JournalLine}
use Rattle.dr_store_past.specs.declared.lines.PastLine.{PastLine}
use Rattle.dr_store_schema.specs.Books.{lines_of}
use Rattle.dr_store.specs.Sealing.{AreOwnLines, HaveMomentsOf}
use Rattle.dr_store.proofs.Looks.{failed_as, looked_both}
use Rattle.dr_store.proofs.Sealings.{own_lines}
use Rattle.dr_store.proofs.sealing.tell_own.Goals as goal

pub returns-in-Ok-clause-looked : goal.returns-in-Ok-clause-looked
returns-in-Ok-clause-looked g c n part =
    let lines = c.in-Ok.lines in
    let old = state g.S.Store c.args.conn.now in
    let mid = state g.S.Store c.tell_journal.new.conn in
    let new = state g.S.Store c.tell_with_moments.new.conn in
    let Shows : Trees → List JournalLine → Type 0 = λ base all. mapped line_of all ≡ lines_of base in
    let Then : Trees → Vec PastLine Global → Type 0 = λ base all. HaveMomentsOf base c.into_vec.result.items all.items in
    let Says : Trees → Vec PastLine Global → Type 0 = λ base all. AreOwnLines base all.items in
    looked_both n part old mid new Shows lines c.tell_with_moments.result Then Says (c.in-Ok.ensures.looked n part) (c.tell_with_moments.ensures.looked n part)
    (λ base past l shown all it. own_lines base lines all.items shown (subst (λ (ls : List JournalLine). HaveMomentsOf base ls all.items) c.into_vec.ensures it))

pub returns-in-Err-clause-looked : goal.returns-in-Err-clause-looked
returns-in-Err-clause-looked g c n part =
    let old = state g.S.Store c.args.conn.now in
    let new = state g.S.Store c.tell_journal.new.conn in
    let Shows : Trees → List JournalLine → Type 0 = λ base all. mapped line_of all ≡ lines_of base in
    let Says : Trees → Vec PastLine Global → Type 0 = λ base all. AreOwnLines base all.items in
    failed_as n part c.in-Err.fault old new Shows Says (c.in-Err.ensures.looked n part)
