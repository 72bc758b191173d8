use Rattle.std.proofs.Common.{Option}
use Rattle.dr_ledger.specs.declared.content.NextRow.{NextRow}
use Rattle.dr_store.specs.Reading.{IsHandedOut, NextsRead}
use Rattle.dr_store.proofs.Again.{err_reads}
use Rattle.dr_store.proofs.reading.read_some.Goals as goal

pub returns-in-Ok-clause-read : goal.returns-in-Ok-clause-read
returns-in-Ok-clause-read g c db dest now found clean = (c.args.due, found, c.in-Ok.ensures.read clean)

pub returns-in-Err-clause-read : goal.returns-in-Err-clause-read
returns-in-Err-clause-read g c db dest now found =
    let was = c.args.shelf.now in
    let shelf = c.read_by.new.shelf in
    let One : NextRow → Type 0 = λ row. g.B.Shelf.is_clean shelf → g.B.Shelf.uses was c.args.due.cell → IsHandedOut (g.B.Shelf.read_of was) c.args.due row in
    let Says : Option NextRow → Type 0 = λ row. g.B.Shelf.is_clean shelf → NextsRead (g.B.Shelf.uses was) (g.B.Shelf.read_of was) db dest now row in
    err_reads c.in-Err.fault One Says c.in-Err.ensures.read
