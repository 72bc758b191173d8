use Rattle.std.proofs.Common.{◌≡◌, ◌∙◌, None, Ok, Some, Option, rules, sym, subst}
use Rattle.sqlite.specs.Held.{state}
use Rattle.dr_ledger.specs.declared.content.Job.{Job}
use Rattle.dr_store_bodies.specs.declared.extent.Extent.{Extent}
use Rattle.dr_store_schema.specs.Ledgers.{IsLedger}
use Rattle.dr_store_reads.specs.Queries.{IsJobOf}
use Rattle.dr_store_open.specs.DataSets.{IsExtentAt}
use Rattle.dr_store_open.proofs.Chains.{asked_as, asked_failed}
use Rattle.dr_store_open.proofs.Shelved.{extent_at}
use Rattle.dr_store_open.proofs.shelving.find_extent.Goals as goal

pub returns-in-Ok-Some : goal.returns-in-Ok-Some
returns-in-Ok-Some g c =
    let uid = c.args.uid.now in
    let job = c.in-Ok-Some.job in
    let old = state g.S.Store c.args.conn.now in
    let new = state g.S.Store c.find_job.new.conn in
    let db = old.now.trees in
    let is : c.in-Ok-Some.field-0 ≡ Some job = search rules in
    let Shows : Option Job → Type 0 = IsJobOf uid db in
    record {
      asked = asked_as {Asks = IsLedger} old new c.in-Ok-Some.field-0 (Ok c.extent_of.result) Shows (IsExtentAt uid db)
          (λ shown. extent_at uid db job c.as_bytes.result.now c.extent_of.result c.as_bytes.ensures (subst Shows is shown) c.extent_of.ensures) c.in-Ok-Some.ensures.asked;
    }

pub returns-in-Ok-None : goal.returns-in-Ok-None
returns-in-Ok-None g c =
    let uid = c.args.uid.now in
    let old = state g.S.Store c.args.conn.now in
    let new = state g.S.Store c.find_job.new.conn in
    let db = old.now.trees in
    record { asked = asked_as {Asks = IsLedger} old new c.in-Ok-None.field-0 (Ok None) (IsJobOf uid db) (IsExtentAt uid db) (λ shown. tt) c.in-Ok-None.ensures.asked }

pub returns-in-Err : goal.returns-in-Err
returns-in-Err g c =
    let uid = c.args.uid.now in
    let old = state g.S.Store c.args.conn.now in
    let new = state g.S.Store c.find_job.new.conn in
    let db = old.now.trees in
    record { asked = asked_failed {Asks = IsLedger} old new c.in-Err.fault (IsJobOf uid db) (IsExtentAt uid db) c.in-Err.ensures.asked }
