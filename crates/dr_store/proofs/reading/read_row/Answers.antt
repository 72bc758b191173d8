use Rattle.std.proofs.Common.{Bool}
use Rattle.sqlite.specs.Held.{state}
use Rattle.sqlite.specs.Tree.{Trees}
use Rattle.dr_store.specs.declared.due.DueRow.{DueRow}
use Rattle.dr_store.specs.Reading.{IsRowOf, IsTold, IsToldOf}
use Rattle.dr_store.proofs.Looks.{failed_as, looked_more}
use Rattle.dr_store_calls.proofs.Reading.{reads_as}
use Rattle.dr_store.proofs.reading.read_row.Goals as goal

pub returns-in-Ok-clause-looked : goal.returns-in-Ok-clause-looked
returns-in-Ok-clause-looked g c n part =
    let uid = c.args.uid.now in
    let old = state g.S.Store c.args.conn.now in
    let new = state g.S.Store c.row_of.new.conn in
    let was = c.args.shelf.now in
    let shelf = c.is_read_by.new.shelf in
    let due = c.in-Ok.due in
    let Shows : Trees → DueRow → Type 0 = λ base. IsRowOf uid base in
    let One : Bool → Type 0 = λ told. g.B.Shelf.is_clean shelf → g.B.Shelf.uses was due.cell → IsTold (g.B.Shelf.read_of was) due told in
    let Says : Trees → Bool → Type 0 = λ base told. g.B.Shelf.is_clean shelf → IsToldOf (g.B.Shelf.uses was) (g.B.Shelf.read_of was) base uid told in
    looked_more n part old new Shows due c.is_read_by.result Says (c.in-Ok.ensures.looked n part)
    (λ base past l shown. reads_as c.is_read_by.result One (Says base) (λ told is clean. (due, shown, is clean)) c.is_read_by.ensures.read)

pub returns-in-Err-clause-looked : goal.returns-in-Err-clause-looked
returns-in-Err-clause-looked g c n part =
    let uid = c.args.uid.now in
    let old = state g.S.Store c.args.conn.now in
    let new = state g.S.Store c.row_of.new.conn in
    let was = c.args.shelf.now in
    let Shows : Trees → DueRow → Type 0 = λ base. IsRowOf uid base in
    let Says : Trees → Bool → Type 0 = λ base told. g.B.Shelf.is_clean was → IsToldOf (g.B.Shelf.uses was) (g.B.Shelf.read_of was) base uid told in
    failed_as n part c.in-Err.fault old new Shows Says (c.in-Err.ensures.looked n part)
