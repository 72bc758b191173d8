use Rattle.std.proofs.Common.{◌≡◌, Option, None, Ok, Some, rules, subst}
use Rattle.sqlite.specs.Effect.{Database}
use Rattle.sqlite.specs.Held.{state}
use Rattle.dr_store_writes.specs.Effects.{IsSiteOf}
use Rattle.dr_store_schema.specs.Ledgers.{IsLedger}
use Rattle.dr_store_reads.specs.Queries.{IsOwnerOf}
use Rattle.dr_store_reads.specs.declared.finding.Owner.{Owner}
use Rattle.dr_store_open.specs.declared.finding.FoundTables.{FoundTables}
use Rattle.dr_store_open.specs.Opening.{IsWholeIf}
use Rattle.dr_store_open.proofs.Chains.{asked_as, asked_failed, asked_then}
use Rattle.dr_store_open.proofs.finding.find_owned.Goals as goal

pub returns-in-Ok-Some : goal.returns-in-Ok-Some
returns-in-Ok-Some g c =
    let part = c.args.site.now in
    let owner = c.in-Ok-Some.owner in
    let old = state g.S.Store c.args.conn.now in
    let mid = state g.S.Store c.find_owner.new.conn in
    let new = state g.S.Store c.with_owner.new.conn in
    let is : c.in-Ok-Some.field-0 ≡ Some owner = search rules in
    let One : Database → Option Owner → Type 0 = λ db o. IsOwnerOf db.trees o in
    let Two : Database → Option FoundTables → Type 0 = λ db found. IsSiteOf owner.node owner.plan db.trees → IsWholeIf part db.trees found in
    record {
      asked = asked_then {Asks = IsLedger} {More = IsLedger} old mid new c.in-Ok-Some.field-0 c.with_owner.result One Two (λ db found. IsWholeIf part db.trees found) (λ is_open has one. has)
          (λ db one y two. two (subst (IsOwnerOf db.trees) is one)) c.in-Ok-Some.ensures.asked c.with_owner.ensures.seen;
    }

pub returns-in-Ok-None : goal.returns-in-Ok-None
returns-in-Ok-None g c =
    let old = state g.S.Store c.args.conn.now in
    let new = state g.S.Store c.find_owner.new.conn in
    let part = c.args.site.now in
    let is : c.in-Ok-None.field-0 ≡ None = search rules in
    record {
      asked = asked_as {Asks = IsLedger} old new c.in-Ok-None.field-0 (Ok None) (IsOwnerOf old.now.trees) (IsWholeIf part old.now.trees)
          (λ shown n agreed owned lines. (subst (IsOwnerOf old.now.trees) is shown) part.name owned.1.1.0 owned.1.1.2) c.in-Ok-None.ensures.asked;
    }

pub returns-in-Err : goal.returns-in-Err
returns-in-Err g c =
    let old = state g.S.Store c.args.conn.now in
    let new = state g.S.Store c.find_owner.new.conn in
    record { asked = asked_failed {Asks = IsLedger} old new c.in-Err.fault (IsOwnerOf old.now.trees) (IsWholeIf c.args.site.now old.now.trees) c.in-Err.ensures.asked }
