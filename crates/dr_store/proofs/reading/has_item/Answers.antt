use Rattle.std.proofs.Common.{◌≡◌, Bool, true, false, is_some, Option, Some, None, Ok, sym, ap, ◌∙◌}
use Rattle.std.specs.FinMap as map
use Rattle.sqlite.specs.Held.{state}
use Rattle.sqlite.specs.Tree.{Trees}
use Rattle.dr_route.specs.declared.key.Key.{Key}
use Rattle.dr_store_schema.specs.Books.{items_of}
use Rattle.dr_store_reads.specs.Queries.{IsKeyOf}
use Rattle.dr_store_calls.proofs.Calls.{asked_looked, looked_read}
use Rattle.dr_store.proofs.Looks.{failed_as}
use Rattle.dr_store.proofs.reading.has_item.Goals as goal

pub returns-in-Ok-clause-looked : goal.returns-in-Ok-clause-looked
returns-in-Ok-clause-looked g c n part =
    let uid = c.args.uid.now in
    let old = state g.S.Store c.args.conn.now in
    let new = state g.S.Store c.find_key.new.conn in
    let Shows : Trees → Option Key → Type 0 = λ base. IsKeyOf uid base in
    let Says : Trees → Bool → Type 0 = λ base there. there ≡ map.contains_key (items_of base) uid in
    looked_read n part old new Shows c.in-Ok.key (Ok c.is_some.result) Says (asked_looked n part _ old new Shows c.in-Ok.ensures.asked)
    (λ base shown. c.is_some.ensures ∙ there base c.in-Ok.key shown)
  where
    there : (base : Trees) (key : Option Key) → IsKeyOf c.args.uid.now base key → is_some key ≡ map.contains_key (items_of base) c.args.uid.now
    there base None shown = sym (ap is_some shown)
    there base (Some key) shown = sym (ap is_some shown)

pub returns-in-Err-clause-looked : goal.returns-in-Err-clause-looked
returns-in-Err-clause-looked g c n part =
    let uid = c.args.uid.now in
    let old = state g.S.Store c.args.conn.now in
    let new = state g.S.Store c.find_key.new.conn in
    let Shows : Trees → Option Key → Type 0 = λ base. IsKeyOf uid base in
    failed_as n part c.in-Err.fault old new Shows (λ base (there : Bool). there ≡ map.contains_key (items_of base) uid) (asked_looked n part _ old new Shows c.in-Err.ensures.asked)
