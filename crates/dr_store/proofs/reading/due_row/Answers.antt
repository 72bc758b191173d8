use Rattle.std.proofs.Common.{◌≡◌, Option, Some, None, Ok, Err}
use Rattle.sqlite.specs.Held.{state}
use Rattle.sqlite.specs.Tree.{Trees}
use Rattle.dr_base.specs.Texts.{Text}
use Rattle.dr_ledger.specs.Replies.{Dues}
use Rattle.dr_store_schema.specs.Books.{book_of}
use Rattle.dr_store_reads.specs.Queries.{IsFirstDue}
use Rattle.dr_store_calls.proofs.Calls.{asked_looked, looked_read}
use Rattle.dr_store.proofs.Looks.{failed_as}
use Rattle.dr_store.proofs.reading.due_row.Goals as goal

first_is : (base : Trees) (dest : Text) (now : _) (found : Option Text) → IsFirstDue base dest now found → Dues (book_of base) dest now found
first_is base dest now None h = h
first_is base dest now (Some uid) h = h

pub returns-in-Ok-clause-looked : goal.returns-in-Ok-clause-looked
returns-in-Ok-clause-looked g c n part =
    let dest = c.args.dest.now in
    let now = c.args.now in
    let old = state g.S.Store c.args.conn.now in
    let new = state g.S.Store c.find_next.new.conn in
    let Shows : Trees → Option Text → Type 0 = λ base. IsFirstDue base dest now in
    let Says : Trees → Option Text → Type 0 = λ base. Dues (book_of base) dest now in
    looked_read n part old new Shows c.in-Ok.uid (Ok c.in-Ok.uid) Says (asked_looked n part _ old new Shows c.in-Ok.ensures.asked)
    (λ base shown. first_is base dest now c.in-Ok.uid shown)

pub returns-in-Err-clause-looked : goal.returns-in-Err-clause-looked
returns-in-Err-clause-looked g c n part =
    let dest = c.args.dest.now in
    let now = c.args.now in
    let old = state g.S.Store c.args.conn.now in
    let new = state g.S.Store c.find_next.new.conn in
    let Shows : Trees → Option Text → Type 0 = λ base. IsFirstDue base dest now in
    let Says : Trees → Option Text → Type 0 = λ base. Dues (book_of base) dest now in
    failed_as n part c.in-Err.fault old new Shows Says (asked_looked n part _ old new Shows c.in-Err.ensures.asked)
