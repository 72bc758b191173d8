use Rattle.std.proofs.Common.{◌≡◌, ◌∙◌, ◌+◌, ◌++◌, ◌∷◌, [], List, Ok, Err, Result, take, refl, sym, ap, subst, arith}
use Rattle.std.proofs.lemmas.List.{take_all, take_more}
use Rattle.sqlite.specs.Held.{state}
use Rattle.sqlite.specs.Tree.{Trees}
use Rattle.dr_base.specs.Texts.{Text}
use Rattle.dr_ledger.specs.declared.fault.LedgerFault.{LedgerFault}
use Rattle.dr_ledger.specs.Replies.{Reads}
use Rattle.dr_store_schema.specs.Books.{rows_of}
use Rattle.dr_store_calls.specs.Calling.{Looked, Nothing}
use Rattle.dr_store_calls.specs.Knowing.{chosen}
use Rattle.dr_store_calls.proofs.Calls.{looked_then, still_called}
use Rattle.dr_store_calls.proofs.Fitting.{chosen_more}
use Rattle.dr_store_calls.proofs.Reading.{same_fault}
use Rattle.dr_store_calls.proofs.receiving.chosen_from.Goals as goal

pub loop-dest-init : goal.loop-dest-init
loop-dest-init g c = (
  λ n part.
      let none = c.new-dests.ensures in
      let Shows : Trees → List Text → Type 0 = λ base dests. dests ≡ [] in
      still_called n part (Ok c.new-dests.result) (state g.S.Store c.args.conn.now) Nothing (λ base db. (db ≡ base) × Shows base c.new-dests.result) (λ base db. ⊥) (λ db any. (refl, none)) (λ P h. h),
  λ h. h,
)

pub loop-dest-preserved : goal.loop-dest-preserved
loop-dest-preserved g c = (
  λ n part.
      let uid = c.args.uid.now in
      let to = c.args.to.now in
      let i = c.loop-dest.dest-index in
      let dest = c.dest-item.result in
      let dests = c.loop-dest.dests in
      let more = c.in-Ok.more in
      let old = state g.S.Store c.args.conn.now in
      let mid = state g.S.Store c.loop-dest.conn in
      let new = state g.S.Store c.chosen_one.new.conn in
      let e = take_more to i dest c.loop-dest-test.true in
      let grown : take (i + 1) to ≡ take i to ++ dest ∷ [] = rw (← c.dest-item.is) at e in
      let One : Trees → List Text → Type 0 = λ base ds. ds ≡ chosen c.args.dropped (rows_of base) uid (take i to) in
      let Next : Trees → List Text → Type 0 = λ base ds. ds ≡ dests ++ chosen c.args.dropped (rows_of base) uid (dest ∷ []) in
      let All : List Text → Trees → List Text → Type 0 = λ xs base ds. ds ≡ chosen c.args.dropped (rows_of base) uid xs in
      let P : List Text → Type 0 = λ xs. Looked n part (Ok more) old new (All xs) in
      subst P (sym grown) (looked_then n n part old mid new One dests (Ok more) Nothing Nothing (λ base db. (db ≡ base) × Next base more) (λ base db. ⊥) (λ base db. (db ≡ base) × All (take i to ++ dest ∷ []) base more) (λ base db. ⊥)
      (c.loop-dest.invariant.0 n part) (c.in-Ok.ensures.looked n part) (λ past db l any shown. tt)
      (λ base db any shown it. (it.0, it.1 ∙ ap (λ xs. xs ++ chosen c.args.dropped (rows_of base) uid (dest ∷ [])) shown ∙ sym (chosen_more c.args.dropped (rows_of base) uid (take i to) dest))) (λ base db any shown none. none)),
  λ h. c.in-Ok.ensures.idle (c.loop-dest.invariant.1 h),
)

pub returns-in-Err-clause-looked : goal.returns-in-Err-clause-looked
returns-in-Err-clause-looked g c n part =
    let uid = c.args.uid.now in
    let to = c.args.to.now in
    let i = c.loop-dest.dest-index in
    let dest = c.dest-item.result in
    let dests = c.loop-dest.dests in
    let r : Result (List Text) LedgerFault = Err c.in-Err.fault in
    let old = state g.S.Store c.args.conn.now in
    let mid = state g.S.Store c.loop-dest.conn in
    let new = state g.S.Store c.chosen_one.new.conn in
    let One : Trees → List Text → Type 0 = λ base ds. ds ≡ chosen c.args.dropped (rows_of base) uid (take i to) in
    let Next : Trees → List Text → Type 0 = λ base ds. ds ≡ dests ++ chosen c.args.dropped (rows_of base) uid (dest ∷ []) in
    let All : Trees → List Text → Type 0 = λ base ds. ds ≡ chosen c.args.dropped (rows_of base) uid to in
    looked_then n n part old mid new One dests r Nothing Nothing (λ base db. (db ≡ base) × Reads r (Next base)) (λ base db. ⊥) (λ base db. (db ≡ base) × Reads r (All base)) (λ base db. ⊥)
    (c.loop-dest.invariant.0 n part) (c.in-Err.ensures.looked n part) (λ past db l any shown. tt)
    (λ base db any shown it. (it.0, same_fault c.in-Err.fault (Next base) (All base) it.1)) (λ base db any shown none. none)

pub returns-in-Err-clause-idle : goal.returns-in-Err-clause-idle
returns-in-Err-clause-idle g c = λ h. c.in-Err.ensures.idle (c.loop-dest.invariant.1 h)

pub returns-clause-looked : goal.returns-clause-looked
returns-clause-looked g c n part =
    let to = c.args.to.now in
    let dests = c.loop-dest.dests in
    let P : List Text → Type 0 = λ xs. Looked n part (Ok dests) (state g.S.Store c.args.conn.now) (state g.S.Store c.loop-dest.conn) (λ base ds. ds ≡ chosen c.args.dropped (rows_of base) c.args.uid.now xs) in
    subst P (take_all c.loop-dest.dest-index to (omega (arith, c.loop-dest-test.false))) (c.loop-dest.invariant.0 n part)

pub returns-clause-idle : goal.returns-clause-idle
returns-clause-idle g c = c.loop-dest.invariant.1
