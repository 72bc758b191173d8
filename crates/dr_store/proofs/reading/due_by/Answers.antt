use Rattle.std.proofs.Common.{Option, Some, Ok}
use Rattle.sqlite.specs.Held.{state}
use Rattle.sqlite.specs.Tree.{Trees}
use Rattle.dr_store_calls.proofs.Calls.{looked_read}
use Rattle.dr_store.specs.declared.due.DueRow.{DueRow}
use Rattle.dr_store.specs.Reading.{IsRowOf, IsSomeRowOf}
use Rattle.dr_store.proofs.Looks.{failed_as}
use Rattle.dr_store.proofs.reading.due_by.Goals as goal

pub returns-in-Ok-clause-looked : goal.returns-in-Ok-clause-looked
returns-in-Ok-clause-looked g c n part =
    let uid = c.args.uid.now in
    let old = state g.S.Store c.args.conn.now in
    let new = state g.S.Store c.row_of.new.conn in
    let Shows : Trees → DueRow → Type 0 = λ base. IsRowOf uid base in
    let Says : Trees → Option DueRow → Type 0 = λ base. IsSomeRowOf uid base in
    looked_read n part old new Shows c.in-Ok.due (Ok (Some c.in-Ok.due)) Says (c.in-Ok.ensures.looked n part) (λ base shown. shown)

pub returns-in-Err-clause-looked : goal.returns-in-Err-clause-looked
returns-in-Err-clause-looked g c n part =
    let uid = c.args.uid.now in
    let old = state g.S.Store c.args.conn.now in
    let new = state g.S.Store c.row_of.new.conn in
    let Shows : Trees → DueRow → Type 0 = λ base. IsRowOf uid base in
    let Says : Trees → Option DueRow → Type 0 = λ base. IsSomeRowOf uid base in
    failed_as n part c.in-Err.fault old new Shows Says (c.in-Err.ensures.looked n part)
