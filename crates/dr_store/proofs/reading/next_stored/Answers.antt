use Rattle.std.proofs.Common.{◌≡◌, Option, Some, None, Ok, Err, subst, sym}
use Rattle.sqlite.specs.Held.{state}
use Rattle.sqlite.specs.Tree.{Trees}
use Rattle.dr_base.specs.Texts.{Text}
use Rattle.dr_store_reads.specs.Queries.{IsFirstDue}
use Rattle.dr_store_calls.proofs.Calls.{asked_looked, looked_read}
use Rattle.dr_store.specs.declared.due.DueRow.{DueRow}
use Rattle.dr_store.specs.Reading.{IsRowOf, IsSomeRowOf, NextsStored}
use Rattle.dr_store.proofs.Looks.{failed_as, looked_both}
use Rattle.dr_store.proofs.reading.next_stored.Goals as goal

pub returns-in-Ok-Some-clause-looked : goal.returns-in-Ok-Some-clause-looked
returns-in-Ok-Some-clause-looked g c n part =
    let dest = c.args.dest.now in
    let now = c.args.now in
    let uid = c.in-Ok-Some.uid in
    let old = state g.S.Store c.args.conn.now in
    let mid = state g.S.Store c.find_next.new.conn in
    let new = state g.S.Store c.due_by.new.conn in
    let Shows : Trees → Option Text → Type 0 = λ base. IsFirstDue base dest now in
    let Then : Trees → Option DueRow → Type 0 = λ base. IsSomeRowOf uid base in
    let Says : Trees → Option DueRow → Type 0 = λ base. NextsStored base dest now in
    looked_both n part old mid new Shows c.in-Ok-Some.field-0 c.due_by.result Then Says (asked_looked n part _ old mid Shows c.in-Ok-Some.ensures.asked) (c.due_by.ensures.looked n part)
    (λ base past l shown found then. due base (let P : Option Text → Type 0 = λ found. IsFirstDue base dest now found in subst P c.in-Ok-Some.field-0-is shown) found then)
  where
    due : (base : Trees) → IsFirstDue base c.args.dest.now c.args.now (Some c.in-Ok-Some.uid) → (found : Option DueRow) → IsSomeRowOf c.in-Ok-Some.uid base found → NextsStored base c.args.dest.now c.args.now found
    due base first None then = absurd then
    due base first (Some found) then =
        let P : Text → Type 0 = λ uid. IsFirstDue base c.args.dest.now c.args.now (Some uid) × IsRowOf uid base found in
        subst P (sym then.0) (first, then)

pub returns-in-Ok-None-clause-looked : goal.returns-in-Ok-None-clause-looked
returns-in-Ok-None-clause-looked g c n part =
    let dest = c.args.dest.now in
    let now = c.args.now in
    let old = state g.S.Store c.args.conn.now in
    let new = state g.S.Store c.find_next.new.conn in
    let Shows : Trees → Option Text → Type 0 = λ base. IsFirstDue base dest now in
    let Says : Trees → Option DueRow → Type 0 = λ base. NextsStored base dest now in
    looked_read n part old new Shows c.in-Ok-None.field-0 (Ok None) Says (asked_looked n part _ old new Shows c.in-Ok-None.ensures.asked)
    (λ base shown. let P : Option Text → Type 0 = λ found. IsFirstDue base dest now found in subst P c.in-Ok-None.field-0-is shown)

pub returns-in-Err-clause-looked : goal.returns-in-Err-clause-looked
returns-in-Err-clause-looked g c n part =
    let dest = c.args.dest.now in
    let now = c.args.now in
    let old = state g.S.Store c.args.conn.now in
    let new = state g.S.Store c.find_next.new.conn in
    let Shows : Trees → Option Text → Type 0 = λ base. IsFirstDue base dest now in
    let Says : Trees → Option DueRow → Type 0 = λ base. NextsStored base dest now in
    failed_as n part c.in-Err.fault old new Shows Says (asked_looked n part _ old new Shows c.in-Err.ensures.asked)
