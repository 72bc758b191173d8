use Rattle.std.proofs.Common.{◌≡◌, ◌∙◌, ◌++◌, Bool, IsTrue, List, Ok, false, true, true≢false, refl, rules, sym}
use Rattle.sqlite.specs.Held.{state}
use Rattle.dr_store_schema.specs.Ledgers.{IsLedger}
use Rattle.dr_store_open.specs.DataSets.{AddsExtent, NamesExtent, extents_under}
use Rattle.dr_store_open.proofs.Chains.{as_seen, not_asked, seen_map}
use Rattle.dr_store_open.proofs.Shelved.{added_under, none_under}
use Rattle.dr_store_open.proofs.shelving.add_extent.Goals as goal

pub returns-then-print : goal.returns-then-print
returns-then-print g c =
    let p = c.args.print.now in
    let old = state g.S.Store c.args.conn.now in
    let new = state g.S.Store c.add_named.new.conn in
    let db = old.now.trees in
    let was = c.args.list.now.items in
    let is = c.add_named.new.list.items in
    let whole : p.1.whole ≡ true = search rules in
    let One : Bool → Type 0 = λ added. IsTrue added → AddsExtent p.0 db was is in
    let Other : Bool → Type 0 = λ added. IsTrue added → NamesExtent db p × (is ≡ was ++ extents_under db p) in
    record {
      seen = seen_map {Asks = IsLedger} old new c.add_named.result One Other (λ added adds yes. added_under db p was is whole (adds yes))
          (as_seen old new c.add_named.result One c.add_named.ensures.asked);
    }

pub returns : goal.returns
returns g c =
    let p = c.args.print.now in
    let old = state g.S.Store c.args.conn.now in
    let db = old.now.trees in
    let was = c.args.list.now.items in
    let whole : p.1.whole ≡ false = search rules in
    let Other : Bool → Type 0 = λ added. IsTrue added → NamesExtent db p × (was ≡ was ++ extents_under db p) in
    record { seen = not_asked {Asks = IsLedger} old (Ok true) Other (λ yes. none_under db p was whole) }
