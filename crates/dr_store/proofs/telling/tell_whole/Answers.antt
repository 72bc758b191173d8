use Rattle.std.proofs.Common.{◌≡◌, ◌++◌, List, map as mapped, ap, ◌∙◌}
use Rattle.sqlite.specs.Held.{state}
use Rattle.sqlite.specs.Tree.{Trees}
use Rattle.dr_ledger.specs.Books.{Line}
use Rattle.dr_ledger_history.specs.Lines.{line_of, lines_of}
use Rattle.dr_ledger_history.specs.declared.line.JournalLine.{JournalLine}
use Rattle.dr_store_past.specs.Lines.{past_in}
use Rattle.dr_store_schema.specs.Books.{lines_of as own_lines}
use Rattle.dr_store_calls.proofs.Reading.{reads_as}
use Rattle.dr_store.proofs.Looks.{failed_as, looked_more}
use Rattle.dr_store.proofs.telling.tell_whole.Goals as goal

pub returns-in-Ok-clause-looked : goal.returns-in-Ok-clause-looked
returns-in-Ok-clause-looked g c n part =
    let past = past_in g.P.LedgerPast.all_lines (g.P.LedgerPast.reach c.args.past.now) in
    let old = state g.S.Store c.args.conn.now in
    let new = state g.S.Store c.tell_journal.new.conn in
    let r = c.tell_all_before.result in
    let own = lines_of c.in-Ok.own in
    let Clean : Type 0 = g.P.LedgerPast.is_clean c.tell_all_before.new.past in
    let Shows : Trees → List JournalLine → Type 0 = λ base all. mapped line_of all ≡ own_lines base in
    let Says : Trees → List JournalLine → Type 0 = λ base all. Clean → lines_of all ≡ past ++ own_lines base in
    looked_more n part old new Shows c.in-Ok.own r Says (c.in-Ok.ensures.looked n part)
    (λ base p l shown. reads_as r (λ (all : List JournalLine). Clean → lines_of all ≡ past ++ own) (Says base) (λ all is clean. is clean ∙ ap (λ (ls : List Line). past ++ ls) shown) c.tell_all_before.ensures.told)

pub returns-in-Err-clause-looked : goal.returns-in-Err-clause-looked
returns-in-Err-clause-looked g c n part =
    let past = past_in g.P.LedgerPast.all_lines (g.P.LedgerPast.reach c.args.past.now) in
    let old = state g.S.Store c.args.conn.now in
    let new = state g.S.Store c.tell_journal.new.conn in
    let Shows : Trees → List JournalLine → Type 0 = λ base all. mapped line_of all ≡ own_lines base in
    let Says : Trees → List JournalLine → Type 0 = λ base all. g.P.LedgerPast.is_clean c.args.past.now → lines_of all ≡ past ++ own_lines base in
    failed_as n part c.in-Err.fault old new Shows Says (c.in-Err.ensures.looked n part)
