use Rattle.std.proofs.Common.{◌≡◌, ◌∙◌, ◌+◌, ◌++◌, ◌∷◌, [], Bool, IsTrue, List, Ok, Err, false, refl, take, true, true≢false, subst, sym, arith}
use Rattle.std.specs.Prelude.{All, ◌↔◌}
use Rattle.dr_base.specs.Texts.{Text}
use Rattle.dr_store_reads.specs.declared.finding.Print.{Print}
use Rattle.std.proofs.lemmas.List.{take_all, take_more}
use Rattle.std.proofs.lemmas.List.Elements.{All-push}
use Rattle.sqlite.specs.Effect.{Database}
use Rattle.sqlite.specs.Held.{state}
use Rattle.dr_store_schema.specs.Ledgers.{IsLedger}
use Rattle.dr_store_open.specs.DataSets.{AreOwnUnder}
use Rattle.dr_store_open.proofs.Chains.{not_asked, seen_as, seen_failed, seen_then}
use Rattle.dr_store_open.proofs.bodies.test_bodies.Goals as goal

pub loop-print-init : goal.loop-print-init
loop-print-init g c =
    let s = state g.S.Store c.args.conn.now in
    not_asked {A = Bool} {Asks = IsLedger} s (Ok true) (λ own. All (AreOwnUnder s.now.trees) (take 0 c.args.prints.now)) (λ k d low. absurd (omega (arith, low)))

pub loop-print-preserved : goal.loop-print-preserved
loop-print-preserved g c =
    let prints = c.args.prints.now in
    let i = c.loop-print.print-index in
    let p = c.print-item.result in
    let old = state g.S.Store c.args.conn.now in
    let mid = state g.S.Store c.loop-print.conn in
    let new = state g.S.Store c.test_print.new.conn in
    let e = take_more prints i p c.loop-print-test.true in
    let more : take (i + 1) prints ≡ take i prints ++ p ∷ [] = rw (← c.print-item.is) at e in
    let One : Database → Bool → Type 0 = λ db own. All (AreOwnUnder db.trees) (take i prints) in
    let Two : Database → Bool → Type 0 = λ db own. AreOwnUnder db.trees p in
    let Both : Database → Bool → Type 0 = λ db own. All (AreOwnUnder db.trees) (take (i + 1) prints) in
    seen_then {Asks = IsLedger} old mid new true (Ok true) One Two Both (λ db one y two. subst (All (AreOwnUnder db.trees)) (sym more) (All-push (AreOwnUnder db.trees) (take i prints) p one two)) c.loop-print.invariant
    (seen_as mid new c.in-Ok.own (Ok true) (λ own. IsTrue own ↔ AreOwnUnder mid.now.trees p) (Two mid.now) (λ h. h.0 c.if-not-own.false) c.in-Ok.ensures.seen)

pub returns : goal.returns
returns g c =
    let prints = c.args.prints.now in
    let i = c.loop-print.print-index in
    let old = state g.S.Store c.args.conn.now in
    let new = state g.S.Store c.loop-print.conn in
    let All_of : List (Text × Print) → Type 0 = All (AreOwnUnder old.now.trees) in
    record {
      seen = seen_as {Asks = IsLedger} old new true (Ok true) (λ own. All_of (take i prints)) (λ own. IsTrue own ↔ All_of prints)
          (λ all. (λ yes. subst All_of (take_all i prints (omega (arith, c.loop-print-test.false))) all, λ every. refl)) c.loop-print.invariant;
    }

pub returns-then-not-own : goal.returns-then-not-own
returns-then-not-own g c =
    let prints = c.args.prints.now in
    let i = c.loop-print.print-index in
    let p = c.print-item.result in
    let old = state g.S.Store c.args.conn.now in
    let mid = state g.S.Store c.loop-print.conn in
    let new = state g.S.Store c.test_print.new.conn in
    let One : Database → Bool → Type 0 = λ db own. All (AreOwnUnder db.trees) (take i prints) in
    let Two : Database → Bool → Type 0 = λ db own. (own ≡ false) × (AreOwnUnder db.trees p → ⊥) in
    let Other : Database → Bool → Type 0 = λ db own. IsTrue own ↔ All (AreOwnUnder db.trees) prints in
    record {
      seen = seen_then {Asks = IsLedger} old mid new true (Ok false) One Two Other
          (λ db one y two. (λ yes. absurd (true≢false (sym yes ∙ two.0)), λ every. absurd (two.1 (subst (AreOwnUnder db.trees) (sym c.print-item.is) (every i p c.loop-print-test.true)))))
          c.loop-print.invariant
          (seen_as mid new c.in-Ok.own (Ok false) (λ own. IsTrue own ↔ AreOwnUnder mid.now.trees p) (Two mid.now) (λ h. (refl, λ under. true≢false (sym (h.1 under) ∙ c.if-not-own.true))) c.in-Ok.ensures.seen);
    }

pub returns-in-Err : goal.returns-in-Err
returns-in-Err g c =
    let prints = c.args.prints.now in
    let i = c.loop-print.print-index in
    let p = c.print-item.result in
    let old = state g.S.Store c.args.conn.now in
    let mid = state g.S.Store c.loop-print.conn in
    let new = state g.S.Store c.test_print.new.conn in
    let One : Database → Bool → Type 0 = λ db own. All (AreOwnUnder db.trees) (take i prints) in
    let Other : Database → Bool → Type 0 = λ db own. IsTrue own ↔ All (AreOwnUnder db.trees) prints in
    record {
      seen = seen_then {Asks = IsLedger} old mid new true (Err c.in-Err.fault) One Other Other (λ db one y two. two) c.loop-print.invariant
          (seen_failed mid new c.in-Err.fault (λ own. IsTrue own ↔ AreOwnUnder mid.now.trees p) (Other mid.now) c.in-Err.ensures.seen);
    }
