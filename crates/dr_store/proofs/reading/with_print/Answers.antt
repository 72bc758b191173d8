use Rattle.std.proofs.Common.{◌≡◌, Option, Some, None, Ok, Err, subst}
use Rattle.sqlite.specs.Held.{state}
use Rattle.sqlite.specs.Tree.{Trees}
use Rattle.dr_ledger.specs.declared.fault.LedgerFault.TheVariants as fault
use Rattle.dr_store_reads.specs.declared.finding.Print.{Print}
use Rattle.dr_store_reads.specs.Queries.{IsJobOf, IsPrintOf}
use Rattle.dr_store_calls.proofs.Calls.{asked_looked, looked_read}
use Rattle.dr_store.specs.declared.due.DueRow.{DueRow}
use Rattle.dr_store.specs.Reading.{IsRowOf}
use Rattle.dr_store.proofs.Looks.{failed_as}
use Rattle.dr_store.proofs.Nexts.{row_is}
use Rattle.dr_store.proofs.reading.with_print.Goals as goal

pub returns-in-Ok-Some-clause-looked : goal.returns-in-Ok-Some-clause-looked
returns-in-Ok-Some-clause-looked g c n part =
    let uid = c.args.uid.now in
    let job = c.args.job in
    let old = state g.S.Store c.args.conn.now in
    let new = state g.S.Store c.find_print.new.conn in
    let due = c.due_of.ensures in
    let Shows : Trees → Option Print → Type 0 = λ base. IsPrintOf uid base in
    let Says : Trees → DueRow → Type 0 = λ base due. IsJobOf uid base (Some job) → IsRowOf uid base due in
    looked_read n part old new Shows c.in-Ok-Some.field-0 (Ok c.due_of.result) Says (asked_looked n part _ old new Shows c.in-Ok-Some.ensures.asked)
    (λ base shown is. row_is base uid job c.in-Ok-Some.print c.due_of.result (let P : Option Print → Type 0 = λ found. IsPrintOf uid base found in subst P c.in-Ok-Some.field-0-is shown) is due.uid due.key due.size due.digest due.cell)

pub returns-in-Ok-None-clause-looked : goal.returns-in-Ok-None-clause-looked
returns-in-Ok-None-clause-looked g c n part =
    let uid = c.args.uid.now in
    let old = state g.S.Store c.args.conn.now in
    let new = state g.S.Store c.find_print.new.conn in
    let Shows : Trees → Option Print → Type 0 = λ base. IsPrintOf uid base in
    let Says : Trees → DueRow → Type 0 = λ base due. IsJobOf uid base (Some c.args.job) → IsRowOf uid base due in
    looked_read n part old new Shows c.in-Ok-None.field-0 (Err fault.Store) Says (asked_looked n part _ old new Shows c.in-Ok-None.ensures.asked) (λ base shown. tt)

pub returns-in-Err-clause-looked : goal.returns-in-Err-clause-looked
returns-in-Err-clause-looked g c n part =
    let uid = c.args.uid.now in
    let old = state g.S.Store c.args.conn.now in
    let new = state g.S.Store c.find_print.new.conn in
    let Shows : Trees → Option Print → Type 0 = λ base. IsPrintOf uid base in
    let Says : Trees → DueRow → Type 0 = λ base due. IsJobOf uid base (Some c.args.job) → IsRowOf uid base due in
    failed_as n part c.in-Err.fault old new Shows Says (asked_looked n part _ old new Shows c.in-Err.ensures.asked)
