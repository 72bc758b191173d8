use Rattle.std.proofs.Common.{None, Ok, Option}
use Rattle.sqlite.specs.Held.{state}
use Rattle.dr_store_writes.specs.Effects.{IsSiteOf}
use Rattle.dr_store_schema.specs.Ledgers.{IsLedger}
use Rattle.dr_store_open.specs.declared.finding.FoundTables.{FoundTables}
use Rattle.dr_store_open.specs.Opening.{IsAgreedIf, IsWholeIf}
use Rattle.dr_store_open.proofs.Chains.{as_seen, not_asked, seen_map}
use Rattle.dr_store_open.proofs.Wholly.{whole_if}
use Rattle.dr_store_open.proofs.finding.with_owner.Goals as goal

pub returns-in-Some : goal.returns-in-Some
returns-in-Some g c =
    let part = c.args.site.now in
    let owner = c.args.owner.now in
    let place = c.in-Some.place in
    let old = state g.S.Store c.args.conn.now in
    let new = state g.S.Store c.find_lists.new.conn in
    let db = old.now.trees in
    let Other : Option FoundTables → Type 0 = λ found. IsSiteOf owner.node owner.plan db → IsWholeIf part db found in
    record {
      seen = seen_map {Asks = IsLedger} old new c.find_lists.result (IsAgreedIf part place db) Other
          (λ found agrees owned. let is = c.in-Some.ensures db owned in whole_if part place db found agrees is.0 is.1)
          (as_seen old new c.find_lists.result (IsAgreedIf part place db) c.find_lists.ensures.asked);
    }

pub returns-in-None : goal.returns-in-None
returns-in-None g c =
    let part = c.args.site.now in
    let owner = c.args.owner.now in
    let old = state g.S.Store c.args.conn.now in
    let db = old.now.trees in
    let Other : Option FoundTables → Type 0 = λ found. IsSiteOf owner.node owner.plan db → IsWholeIf part db found in
    record {
      seen = not_asked {Asks = IsLedger} old (Ok None) Other (λ owned n agreed mine lines. c.in-None.ensures db owned mine lines);
    }
