use Rattle.std.proofs.Common.{◌≡◌, Bool, true, false, is_some, Option, Some, None, Ok, sym, ap, subst}
use Rattle.std.specs.FinMap as map
use Rattle.sqlite.specs.Held.{state}
use Rattle.sqlite.specs.Tree.{Trees}
use Rattle.dr_store_schema.specs.Books.{bodies_of}
use Rattle.dr_store_reads.specs.declared.finding.Stored.{Stored}
use Rattle.dr_store_reads.specs.Queries.{IsStored}
use Rattle.dr_store_calls.proofs.Calls.{asked_looked, looked_read}
use Rattle.dr_store.proofs.Looks.{failed_as}
use Rattle.dr_store.proofs.reading.has_data_set.Goals as goal

pub returns-in-Ok-Some-clause-looked : goal.returns-in-Ok-Some-clause-looked
returns-in-Ok-Some-clause-looked g c n part =
    let uid = c.args.uid.now in
    let old = state g.S.Store c.args.conn.now in
    let new = state g.S.Store c.find_item.new.conn in
    let Shows : Trees → Option Stored → Type 0 = λ base. IsStored uid base in
    let Says : Trees → Bool → Type 0 = λ base there. there ≡ map.contains_key (bodies_of base) uid in
    looked_read n part old new Shows c.in-Ok-Some.field-0 (Ok c.in-Ok-Some.stored.whole) Says (asked_looked n part _ old new Shows c.in-Ok-Some.ensures.asked)
    (λ base shown. sym (let P : Option Stored → Type 0 = λ found. IsStored uid base found in (subst P c.in-Ok-Some.field-0-is shown).whole))

pub returns-in-Ok-None-clause-looked : goal.returns-in-Ok-None-clause-looked
returns-in-Ok-None-clause-looked g c n part =
    let uid = c.args.uid.now in
    let old = state g.S.Store c.args.conn.now in
    let new = state g.S.Store c.find_item.new.conn in
    let Shows : Trees → Option Stored → Type 0 = λ base. IsStored uid base in
    let Says : Trees → Bool → Type 0 = λ base there. there ≡ map.contains_key (bodies_of base) uid in
    looked_read n part old new Shows c.in-Ok-None.field-0 (Ok false) Says (asked_looked n part _ old new Shows c.in-Ok-None.ensures.asked)
    (λ base shown. sym (let P : Option Stored → Type 0 = λ found. IsStored uid base found in (subst P c.in-Ok-None.field-0-is shown).whole))

pub returns-in-Err-clause-looked : goal.returns-in-Err-clause-looked
returns-in-Err-clause-looked g c n part =
    let uid = c.args.uid.now in
    let old = state g.S.Store c.args.conn.now in
    let new = state g.S.Store c.find_item.new.conn in
    let Shows : Trees → Option Stored → Type 0 = λ base. IsStored uid base in
    failed_as n part c.in-Err.fault old new Shows (λ base (there : Bool). there ≡ map.contains_key (bodies_of base) uid) (asked_looked n part _ old new Shows c.in-Err.ensures.asked)
