use Rattle.std.proofs.Common.{◌≡◌, ◌∙◌, ◌++◌, ◌∷◌, [], Bool, IsTrue, List, None, Ok, Some, Option, false, true≢false, ap, sym, subst}
use Rattle.sqlite.specs.Held.{state}
use Rattle.dr_store_bodies.specs.declared.extent.Extent.{Extent}
use Rattle.dr_store_schema.specs.Ledgers.{IsLedger}
use Rattle.dr_store_reads.proofs.Outcomes.{reads_map}
use Rattle.dr_store_open.specs.DataSets.{AddsExtent, IsExtentAt}
use Rattle.dr_store_open.proofs.Chains.{asked_as, asked_failed}
use Rattle.dr_store_open.proofs.shelving.add_named.Goals as goal

pub returns-in-Ok-Some : goal.returns-in-Ok-Some
returns-in-Ok-Some g c =
    let uid = c.args.uid.now in
    let old = state g.S.Store c.args.conn.now in
    let new = state g.S.Store c.find_extent.new.conn in
    let db = old.now.trees in
    let was = c.args.list.now.items in
    let is = c.push_extent.new.list.items in
    let Shows : Option Extent → Type 0 = IsExtentAt uid db in
    let Other : Bool → Type 0 = λ added. IsTrue added → AddsExtent uid db was is in
    record {
      asked = asked_as {Asks = IsLedger} old new c.in-Ok-Some.field-0 c.push_extent.result Shows Other
          (λ shown.
          let at = subst Shows c.in-Ok-Some.field-0-is shown in
          reads_map c.push_extent.result (λ added more yes. (at.0, at.1, at.2, more ∙ ap (λ (e : Extent). was ++ e ∷ []) at.3)) c.push_extent.ensures) c.in-Ok-Some.ensures.asked;
    }

pub returns-in-Ok-None : goal.returns-in-Ok-None
returns-in-Ok-None g c =
    let uid = c.args.uid.now in
    let old = state g.S.Store c.args.conn.now in
    let new = state g.S.Store c.find_extent.new.conn in
    let db = old.now.trees in
    let was = c.args.list.now.items in
    let Other : Bool → Type 0 = λ added. IsTrue added → AddsExtent uid db was was in
    record {
      asked = asked_as {Asks = IsLedger} old new c.in-Ok-None.field-0 (Ok false) (IsExtentAt uid db) Other
          (λ shown yes. absurd (true≢false (sym yes))) c.in-Ok-None.ensures.asked;
    }

pub returns-in-Err : goal.returns-in-Err
returns-in-Err g c =
    let uid = c.args.uid.now in
    let old = state g.S.Store c.args.conn.now in
    let new = state g.S.Store c.find_extent.new.conn in
    let db = old.now.trees in
    let was = c.args.list.now.items in
    let Other : Bool → Type 0 = λ added. IsTrue added → AddsExtent uid db was was in
    record { asked = asked_failed {Asks = IsLedger} old new c.in-Err.fault (IsExtentAt uid db) Other c.in-Err.ensures.asked }
