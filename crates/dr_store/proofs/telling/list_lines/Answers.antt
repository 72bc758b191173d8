use Rattle.std.proofs.Common.{◌≡◌, ◌∙◌, ◌++◌, ℕ, List, map as mapped, ap}
use Rattle.sqlite.specs.Held.{state}
use Rattle.sqlite.specs.Tree.{Trees}
use Rattle.dr_ledger.specs.declared.item.Entry.{Entry}
use Rattle.dr_ledger.specs.Replies.{entry_of}
use Rattle.dr_ledger_history.specs.Lines.{line_of, lines_of}
use Rattle.dr_ledger_history.specs.declared.line.JournalLine.{JournalLine}
use Rattle.dr_store_past.specs.Lines.{past_in}
use Rattle.dr_store_schema.specs.Books.{lines_of as own_lines}
use Rattle.dr_store_calls.proofs.Reading.{reads_as}
use Rattle.dr_store.proofs.Looks.{failed_as, looked_more}
use Rattle.dr_store.proofs.telling.list_lines.Goals as goal

pub returns-in-Ok-clause-looked : goal.returns-in-Ok-clause-looked
returns-in-Ok-clause-looked g c n part =
    let past = past_in g.P.LedgerPast.all_lines (g.P.LedgerPast.reach c.args.past.now) in
    let Clean : Type 0 = g.P.LedgerPast.is_clean c.tell_whole.new.past in
    let lines = c.as_slice.result.now in
    let r = c.shown.result in
    let old = state g.S.Store c.args.conn.now in
    let new = state g.S.Store c.tell_whole.new.conn in
    let Shows : Trees → List JournalLine → Type 0 = λ base all. Clean → lines_of all ≡ past ++ own_lines base in
    let Says : Trees → List Entry → Type 0 = λ base all. Clean → all ≡ mapped entry_of (past ++ own_lines base) in
    looked_more n part old new Shows c.in-Ok.lines r Says (c.in-Ok.ensures.looked n part)
    (λ base p l told. reads_as r (λ (all : List Entry). all ≡ mapped entry_of (mapped line_of lines)) (Says base)
    (λ all z clean. z ∙ (ap (λ (ls : List JournalLine). mapped entry_of (mapped line_of ls)) c.as_slice.ensures ∙ ap (mapped entry_of) (told clean))) c.shown.ensures)

pub returns-in-Err-clause-looked : goal.returns-in-Err-clause-looked
returns-in-Err-clause-looked g c n part =
    let past = past_in g.P.LedgerPast.all_lines (g.P.LedgerPast.reach c.args.past.now) in
    let Clean : Type 0 = g.P.LedgerPast.is_clean c.tell_whole.new.past in
    let old = state g.S.Store c.args.conn.now in
    let new = state g.S.Store c.tell_whole.new.conn in
    let Shows : Trees → List JournalLine → Type 0 = λ base all. Clean → lines_of all ≡ past ++ own_lines base in
    let Says : Trees → List Entry → Type 0 = λ base all. Clean → all ≡ mapped entry_of (past ++ own_lines base) in
    failed_as n part c.in-Err.fault old new Shows Says (c.in-Err.ensures.looked n part)
