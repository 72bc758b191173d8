use Rattle.std.proofs.Common.{◌≡◌, Option, Some, None, Ok, Err, subst}
use Rattle.sqlite.specs.Held.{state}
use Rattle.sqlite.specs.Tree.{Trees}
use Rattle.dr_ledger.specs.declared.content.Job.{Job}
use Rattle.dr_ledger.specs.declared.fault.LedgerFault.TheVariants as fault
use Rattle.dr_store_reads.specs.Queries.{IsJobOf}
use Rattle.dr_store_calls.proofs.Calls.{asked_looked, looked_read}
use Rattle.dr_store.specs.declared.due.DueRow.{DueRow}
use Rattle.dr_store.specs.Reading.{IsRowOf}
use Rattle.dr_store.proofs.Looks.{failed_as, looked_both}
use Rattle.dr_store.proofs.reading.row_of.Goals as goal

pub returns-in-Ok-Some-clause-looked : goal.returns-in-Ok-Some-clause-looked
returns-in-Ok-Some-clause-looked g c n part =
    let uid = c.args.uid.now in
    let old = state g.S.Store c.args.conn.now in
    let mid = state g.S.Store c.find_job.new.conn in
    let new = state g.S.Store c.with_print.new.conn in
    let Shows : Trees → Option Job → Type 0 = λ base. IsJobOf uid base in
    let Then : Trees → DueRow → Type 0 = λ base due. IsJobOf uid base (Some c.in-Ok-Some.job) → IsRowOf uid base due in
    let Says : Trees → DueRow → Type 0 = λ base. IsRowOf uid base in
    looked_both n part old mid new Shows c.in-Ok-Some.field-0 c.with_print.result Then Says (asked_looked n part _ old mid Shows c.in-Ok-Some.ensures.asked) (c.with_print.ensures.looked n part)
    (λ base past l shown due then. then (let P : Option Job → Type 0 = λ found. IsJobOf uid base found in subst P c.in-Ok-Some.field-0-is shown))

pub returns-in-Ok-None-clause-looked : goal.returns-in-Ok-None-clause-looked
returns-in-Ok-None-clause-looked g c n part =
    let uid = c.args.uid.now in
    let old = state g.S.Store c.args.conn.now in
    let new = state g.S.Store c.find_job.new.conn in
    let Shows : Trees → Option Job → Type 0 = λ base. IsJobOf uid base in
    let Says : Trees → DueRow → Type 0 = λ base. IsRowOf uid base in
    looked_read n part old new Shows c.in-Ok-None.field-0 (Err fault.Store) Says (asked_looked n part _ old new Shows c.in-Ok-None.ensures.asked) (λ base shown. tt)

pub returns-in-Err-clause-looked : goal.returns-in-Err-clause-looked
returns-in-Err-clause-looked g c n part =
    let uid = c.args.uid.now in
    let old = state g.S.Store c.args.conn.now in
    let new = state g.S.Store c.find_job.new.conn in
    let Shows : Trees → Option Job → Type 0 = λ base. IsJobOf uid base in
    let Says : Trees → DueRow → Type 0 = λ base. IsRowOf uid base in
    failed_as n part c.in-Err.fault old new Shows Says (asked_looked n part _ old new Shows c.in-Err.ensures.asked)
