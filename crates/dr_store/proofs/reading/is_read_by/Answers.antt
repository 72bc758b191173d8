use Rattle.std.proofs.Common.{Bool}
use Rattle.dr_ledger.specs.declared.content.NextRow.{NextRow}
use Rattle.dr_store.specs.Reading.{IsHandedOut, IsTold}
use Rattle.dr_store.proofs.Again.{err_reads}
use Rattle.dr_store.proofs.Nexts.{told_by}
use Rattle.dr_store.proofs.reading.is_read_by.Goals as goal

pub returns-in-Ok-clause-read : goal.returns-in-Ok-clause-read
returns-in-Ok-clause-read g c clean used = told_by (g.B.Shelf.read_of c.args.shelf.now) c.args.due c.in-Ok.row c.is_whole.result c.is_whole.ensures (c.in-Ok.ensures.read clean used)

pub returns-in-Err-clause-read : goal.returns-in-Err-clause-read
returns-in-Err-clause-read g c =
    let was = c.args.shelf.now in
    let shelf = c.read_by.new.shelf in
    let One : NextRow → Type 0 = λ row. g.B.Shelf.is_clean shelf → g.B.Shelf.uses was c.args.due.cell → IsHandedOut (g.B.Shelf.read_of was) c.args.due row in
    let Says : Bool → Type 0 = λ told. g.B.Shelf.is_clean shelf → g.B.Shelf.uses was c.args.due.cell → IsTold (g.B.Shelf.read_of was) c.args.due told in
    err_reads c.in-Err.fault One Says c.in-Err.ensures.read
