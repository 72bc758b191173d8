use Rattle.std.proofs.Common.{◌≡◌, Bool, IsTrue, None, Ok, Some, false, rules, subst}
use Rattle.std.specs.Prelude.{◌↔◌}
use Rattle.sqlite.specs.Held.{state}
use Rattle.dr_store_schema.specs.Ledgers.{IsLedger}
use Rattle.dr_store_reads.specs.Queries.{IsJobOf}
use Rattle.dr_store_reads.proofs.Outcomes.{reads_map}
use Rattle.dr_store_open.specs.DataSets.{IsReadAs}
use Rattle.dr_store_open.proofs.Chains.{asked_as, asked_failed}
use Rattle.dr_store_open.proofs.Reread.{none_read, read_if_own}
use Rattle.dr_store_open.proofs.bodies.test_body.Goals as goal

pub returns-in-Ok-Some : goal.returns-in-Ok-Some
returns-in-Ok-Some g c =
    let uid = c.args.uid.now in
    let print = c.args.print.now in
    let job = c.in-Ok-Some.job in
    let old = state g.S.Store c.args.conn.now in
    let new = state g.S.Store c.find_job.new.conn in
    let db = old.now.trees in
    let is : c.in-Ok-Some.field-0 ≡ Some job = search rules in
    let Other : Bool → Type 0 = λ own. IsTrue own ↔ IsReadAs uid print db in
    record {
      asked = asked_as {Asks = IsLedger} old new c.in-Ok-Some.field-0 c.is_own.result (IsJobOf uid db) Other
          (λ shown. reads_map c.is_own.result (λ own says. read_if_own db uid job print own (subst (IsJobOf uid db) is shown) says) c.is_own.ensures)
          c.in-Ok-Some.ensures.asked;
    }

pub returns-in-Ok-None : goal.returns-in-Ok-None
returns-in-Ok-None g c =
    let uid = c.args.uid.now in
    let print = c.args.print.now in
    let old = state g.S.Store c.args.conn.now in
    let new = state g.S.Store c.find_job.new.conn in
    let db = old.now.trees in
    let is : c.in-Ok-None.field-0 ≡ None = search rules in
    let Other : Bool → Type 0 = λ own. IsTrue own ↔ IsReadAs uid print db in
    record {
      asked = asked_as {Asks = IsLedger} old new c.in-Ok-None.field-0 (Ok false) (IsJobOf uid db) Other
          (λ shown. none_read db uid print (subst (IsJobOf uid db) is shown)) c.in-Ok-None.ensures.asked;
    }

pub returns-in-Err : goal.returns-in-Err
returns-in-Err g c =
    let uid = c.args.uid.now in
    let print = c.args.print.now in
    let old = state g.S.Store c.args.conn.now in
    let new = state g.S.Store c.find_job.new.conn in
    let db = old.now.trees in
    let Other : Bool → Type 0 = λ own. IsTrue own ↔ IsReadAs uid print db in
    record { asked = asked_failed {Asks = IsLedger} old new c.in-Err.fault (IsJobOf uid db) Other c.in-Err.ensures.asked }
