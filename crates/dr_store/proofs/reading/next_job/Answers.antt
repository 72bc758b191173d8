use Rattle.std.proofs.Common.{Option}
use Rattle.sqlite.specs.Held.{state}
use Rattle.sqlite.specs.Tree.{Trees}
use Rattle.dr_ledger.specs.declared.content.NextRow.{NextRow}
use Rattle.dr_store.specs.declared.due.DueRow.{DueRow}
use Rattle.dr_store.specs.Reading.{NextsRead, NextsStored}
use Rattle.dr_store.proofs.Looks.{failed_as, looked_more}
use Rattle.dr_store.proofs.reading.next_job.Goals as goal

pub returns-in-Ok-clause-looked : goal.returns-in-Ok-clause-looked
returns-in-Ok-clause-looked g c n part =
    let dest = c.args.dest.now in
    let now = c.args.now in
    let old = state g.S.Store c.args.conn.now in
    let new = state g.S.Store c.next_stored.new.conn in
    let Shows : Trees → Option DueRow → Type 0 = λ base. NextsStored base dest now in
    let Says : Trees → Option NextRow → Type 0 = λ base row. g.B.Shelf.is_clean c.read_due.new.shelf → NextsRead (g.B.Shelf.uses c.args.shelf.now) (g.B.Shelf.read_of c.args.shelf.now) base dest now row in
    looked_more n part old new Shows c.in-Ok.due c.read_due.result Says (c.in-Ok.ensures.looked n part) (λ base past l shown. c.read_due.ensures.read base dest now shown)

pub returns-in-Err-clause-looked : goal.returns-in-Err-clause-looked
returns-in-Err-clause-looked g c n part =
    let dest = c.args.dest.now in
    let now = c.args.now in
    let old = state g.S.Store c.args.conn.now in
    let new = state g.S.Store c.next_stored.new.conn in
    let Shows : Trees → Option DueRow → Type 0 = λ base. NextsStored base dest now in
    let Says : Trees → Option NextRow → Type 0 = λ base row. g.B.Shelf.is_clean c.args.shelf.now → NextsRead (g.B.Shelf.uses c.args.shelf.now) (g.B.Shelf.read_of c.args.shelf.now) base dest now row in
    failed_as n part c.in-Err.fault old new Shows Says (c.in-Err.ensures.looked n part)
