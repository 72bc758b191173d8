use Rattle.std.proofs.Common.{◌≡◌, ◌∙◌, Bool, IsTrue, Ok, false, refl, rules, true, sym, true≢false}
use Rattle.std.specs.Prelude.{◌↔◌}
use Rattle.sqlite.specs.Held.{state}
use Rattle.dr_store_schema.specs.Ledgers.{IsLedger}
use Rattle.dr_store_open.specs.DataSets.{AreOwnUnder, IsReadAs}
use Rattle.dr_store_open.proofs.Chains.{as_seen, not_asked, seen_map}
use Rattle.dr_store_open.proofs.bodies.test_print.Goals as goal

pub returns-then-print : goal.returns-then-print
returns-then-print g c =
    let p = c.args.print.now in
    let old = state g.S.Store c.args.conn.now in
    let new = state g.S.Store c.test_body.new.conn in
    let db = old.now.trees in
    let One : Bool → Type 0 = λ own. IsTrue own ↔ IsReadAs p.0 p.1 db in
    let Other : Bool → Type 0 = λ own. IsTrue own ↔ AreOwnUnder db p in
    let is : p.1.whole ≡ true = search rules in
    record {
      seen = seen_map {Asks = IsLedger} old new c.test_body.result One Other (λ own says. (λ yes whole. says.0 yes, λ under. says.1 (under is)))
          (as_seen old new c.test_body.result One c.test_body.ensures.asked);
    }

pub returns : goal.returns
returns g c =
    let p = c.args.print.now in
    let old = state g.S.Store c.args.conn.now in
    let Other : Bool → Type 0 = λ own. IsTrue own ↔ AreOwnUnder old.now.trees p in
    let is : p.1.whole ≡ false = search rules in
    record { seen = not_asked {Asks = IsLedger} old (Ok true) Other (λ yes whole. absurd (true≢false (sym whole ∙ is)), λ under. refl) }
