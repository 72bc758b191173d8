use Rattle.std.proofs.Common.{◌≡◌, ◌∙◌, ◌+◌, ◌++◌, ◌∷◌, [], Bool, IsTrue, List, None, Ok, Err, Option, Some, Vec, Global, option_map, refl, rules, take, true, subst, sym, arith}
use Rattle.std.proofs.lemmas.List.{take_all, take_more}
use Rattle.sqlite.specs.Effect.{Database}
use Rattle.sqlite.specs.Held.{state}
use Rattle.dr_store_bodies.specs.declared.extent.Extent.{Extent}
use Rattle.dr_store_schema.specs.Ledgers.{IsLedger}
use Rattle.dr_store_open.specs.DataSets.{AreListed, AreListedIf, NamesExtent, extents_under}
use Rattle.dr_store_open.proofs.Chains.{not_asked, seen_as, seen_failed, seen_then}
use Rattle.dr_store_open.proofs.Shelved.{listed_more, listed_none}
use Rattle.dr_store_open.proofs.shelving.list_extents.Goals as goal

pub loop-print-init : goal.loop-print-init
loop-print-init g c =
    let s = state g.S.Store c.args.conn.now in
    let none : c.new-list.result.items ≡ [] = search rules in
    not_asked {A = Bool} {Asks = IsLedger} s (Ok true) (λ own. AreListed s.now.trees (take 0 c.args.prints.now) c.new-list.result.items) (listed_none s.now.trees c.args.prints.now c.new-list.result.items none)

pub loop-print-preserved : goal.loop-print-preserved
loop-print-preserved g c =
    let prints = c.args.prints.now in
    let i = c.loop-print.print-index in
    let p = c.print-item.result in
    let old = state g.S.Store c.args.conn.now in
    let mid = state g.S.Store c.loop-print.conn in
    let new = state g.S.Store c.add_extent.new.conn in
    let was = c.loop-print.list.items in
    let is = c.add_extent.new.list.items in
    let e = take_more prints i p c.loop-print-test.true in
    let more : take (i + 1) prints ≡ take i prints ++ p ∷ [] = rw (← c.print-item.is) at e in
    let One : Database → Bool → Type 0 = λ db own. AreListed db.trees (take i prints) was in
    let Two : Database → Bool → Type 0 = λ db own. NamesExtent db.trees p × (is ≡ was ++ extents_under db.trees p) in
    let Both : Database → Bool → Type 0 = λ db own. AreListed db.trees (take (i + 1) prints) is in
    seen_then {Asks = IsLedger} old mid new true (Ok true) One Two Both
    (λ db one y two. subst (λ ps. AreListed db.trees ps is) (sym more) (listed_more db.trees (take i prints) p was is one two.0 two.1)) c.loop-print.invariant
    (seen_as mid new c.in-Ok.added (Ok true) (λ added. IsTrue added → NamesExtent mid.now.trees p × (is ≡ was ++ extents_under mid.now.trees p)) (Two mid.now) (λ h. h c.if-not-added.false) c.in-Ok.ensures.seen)

pub returns : goal.returns
returns g c =
    let prints = c.args.prints.now in
    let i = c.loop-print.print-index in
    let old = state g.S.Store c.args.conn.now in
    let new = state g.S.Store c.loop-print.conn in
    let db = old.now.trees in
    let list = c.loop-print.list in
    let Other : Option (Vec Extent Global) → Type 0 = λ found. AreListedIf db prints (option_map (λ (v : Vec Extent Global). v.items) found) in
    record {
      seen = seen_as {A = Bool} {Asks = IsLedger} old new true (Ok (Some list)) (λ own. AreListed db (take i prints) list.items) Other
          (λ all. subst (λ ps. AreListed db ps list.items) (take_all i prints (omega (arith, c.loop-print-test.false))) all) c.loop-print.invariant;
    }

pub returns-then-not-added : goal.returns-then-not-added
returns-then-not-added g c =
    let prints = c.args.prints.now in
    let i = c.loop-print.print-index in
    let p = c.print-item.result in
    let old = state g.S.Store c.args.conn.now in
    let mid = state g.S.Store c.loop-print.conn in
    let new = state g.S.Store c.add_extent.new.conn in
    let was = c.loop-print.list.items in
    let is = c.add_extent.new.list.items in
    let Result : Type 0 = Option (Vec Extent Global) in
    let One : Database → Bool → Type 0 = λ db own. AreListed db.trees (take i prints) was in
    let Other : Database → Result → Type 0 = λ db found. AreListedIf db.trees prints (option_map (λ (v : Vec Extent Global). v.items) found) in
    record {
      seen = seen_then {A = Bool} {B = Result} {Asks = IsLedger} old mid new true (Ok None) One Other Other (λ db one y two. two) c.loop-print.invariant
          (seen_as mid new c.in-Ok.added (Ok None) (λ added. IsTrue added → NamesExtent mid.now.trees p × (is ≡ was ++ extents_under mid.now.trees p)) (Other mid.now) (λ h. tt) c.in-Ok.ensures.seen);
    }

pub returns-in-Err : goal.returns-in-Err
returns-in-Err g c =
    let prints = c.args.prints.now in
    let i = c.loop-print.print-index in
    let p = c.print-item.result in
    let old = state g.S.Store c.args.conn.now in
    let mid = state g.S.Store c.loop-print.conn in
    let new = state g.S.Store c.add_extent.new.conn in
    let was = c.loop-print.list.items in
    let is = c.add_extent.new.list.items in
    let Result : Type 0 = Option (Vec Extent Global) in
    let One : Database → Bool → Type 0 = λ db own. AreListed db.trees (take i prints) was in
    let Other : Database → Result → Type 0 = λ db found. AreListedIf db.trees prints (option_map (λ (v : Vec Extent Global). v.items) found) in
    record {
      seen = seen_then {A = Bool} {B = Result} {Asks = IsLedger} old mid new true (Err c.in-Err.fault) One Other Other (λ db one y two. two) c.loop-print.invariant
          (seen_failed mid new c.in-Err.fault (λ added. IsTrue added → NamesExtent mid.now.trees p × (is ≡ was ++ extents_under mid.now.trees p)) (Other mid.now) c.in-Err.ensures.seen);
    }
