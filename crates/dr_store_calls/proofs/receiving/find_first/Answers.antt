use Rattle.std.proofs.Common.{◌≡◌, ◌∙◌, true, false, Bool, Ok, Err, List, Result, ap}
use Rattle.std.specs.FinSet as set
use Rattle.sqlite.specs.Held.{state}
use Rattle.sqlite.specs.Tree.{Trees}
use Rattle.dr_base.specs.Texts.{Text}
use Rattle.dr_ledger.specs.declared.fault.LedgerFault.{LedgerFault}
use Rattle.dr_store_schema.specs.Books.{all_kept_in, rows_of}
use Rattle.dr_store_calls.specs.declared.bringing.FirstArrival.{FirstArrival}
use Rattle.dr_store_calls.specs.Knowing.{chosen}
use Rattle.dr_store_calls.specs.Receiving.{IsFoundFor}
use Rattle.dr_store_calls.proofs.Calls.{asked_looked, looked_read}
use Rattle.dr_store_calls.proofs.Reading.{looked_both, looked_handed}
use Rattle.dr_store_calls.proofs.receiving.find_first.Goals as goal

pub returns-in_err-dests-clause-looked : goal.returns-in_err-dests-clause-looked
returns-in_err-dests-clause-looked g c n part =
    let uid = c.args.came.now.instance.now.uid in
    let Dests : Trees → List Text → Type 0 = λ base xs. xs ≡ chosen false (rows_of base) uid c.as_slice.result.now in
    looked_handed n part Dests (IsFoundFor uid) (state g.S.Store c.args.conn.now) (state g.S.Store c.chosen_from.new.conn) c.in_err-dests.field-0.0 c.from_residual.result c.from_residual.ensures.0 c.from_residual.ensures.1
    (c.in_err-dests.ensures.looked n part)

pub returns-in_err-again-clause-looked : goal.returns-in_err-again-clause-looked
returns-in_err-again-clause-looked g c n part =
    let uid = c.args.came.now.instance.now.uid in
    let old = state g.S.Store c.args.conn.now in
    let mid = state g.S.Store c.chosen_from.new.conn in
    let new = state g.S.Store c.chosen_from-2.new.conn in
    let e = c.in_err-again.field-0.0 in
    let failed : Result (List Text) LedgerFault = Err e in
    let Dests : Trees → List Text → Type 0 = λ base xs. xs ≡ chosen false (rows_of base) uid c.as_slice.result.now in
    let Again : Trees → List Text → Type 0 = λ base xs. xs ≡ chosen true (rows_of base) uid c.as_slice-2.result.now in
    looked_handed n part Again (IsFoundFor uid) old new e c.from_residual-in_err-again.result c.from_residual-in_err-again.ensures.0 c.from_residual-in_err-again.ensures.1
    (looked_both n part Dests Again old mid new Again c.in_ok-dests.dests failed (c.in_ok-dests.ensures.looked n part) (c.in_err-again.ensures.looked n part) (λ base dests xs again. again))

pub returns-in_err-kept-clause-looked : goal.returns-in_err-kept-clause-looked
returns-in_err-kept-clause-looked g c n part =
    let uid = c.args.came.now.instance.now.uid in
    let old = state g.S.Store c.args.conn.now in
    let first = state g.S.Store c.chosen_from.new.conn in
    let mid = state g.S.Store c.chosen_from-2.new.conn in
    let new = state g.S.Store c.find_kept.new.conn in
    let e = c.in_err-kept.field-0.0 in
    let failed : Result Bool LedgerFault = Err e in
    let again : Result (List Text) LedgerFault = Ok c.in_ok-again.again in
    let Dests : Trees → List Text → Type 0 = λ base xs. xs ≡ chosen false (rows_of base) uid c.as_slice.result.now in
    let Again : Trees → List Text → Type 0 = λ base xs. xs ≡ chosen true (rows_of base) uid c.as_slice-2.result.now in
    let Kept : Trees → Bool → Type 0 = λ base kept. kept ≡ set.contains (all_kept_in (base 7)) uid in
    looked_handed n part Kept (IsFoundFor uid) old new e c.from_residual-in_err-kept.result c.from_residual-in_err-kept.ensures.0 c.from_residual-in_err-kept.ensures.1
    (looked_both n part Again Kept old mid new Kept c.in_ok-again.again failed
    (looked_both n part Dests Again old first mid Again c.in_ok-dests.dests again (c.in_ok-dests.ensures.looked n part) (c.in_ok-again.ensures.looked n part) (λ base dests xs shown. shown))
    (asked_looked n part failed mid new Kept c.in_err-kept.ensures.asked) (λ base shown kept it. it))

pub returns-clause-looked : goal.returns-clause-looked
returns-clause-looked g c n part =
    let uid = c.args.came.now.instance.now.uid in
    let to = c.in-Ok.targets.to in
    let old = state g.S.Store c.args.conn.now in
    let first = state g.S.Store c.chosen_from.new.conn in
    let mid = state g.S.Store c.chosen_from-2.new.conn in
    let new = state g.S.Store c.find_kept.new.conn in
    let dests = c.in_ok-dests.dests in
    let again = c.in_ok-again.again in
    let kept = c.in_ok-kept.kept in
    let all : FirstArrival = record { targets = c.in-Ok.targets; again = again; dests = dests; kept = kept } in
    let Dests : Trees → List Text → Type 0 = λ base xs. xs ≡ chosen false (rows_of base) uid c.as_slice.result.now in
    let Again : Trees → List Text → Type 0 = λ base xs. xs ≡ chosen true (rows_of base) uid c.as_slice-2.result.now in
    let Kept : Trees → Bool → Type 0 = λ base b. b ≡ set.contains (all_kept_in (base 7)) uid in
    let Both : Trees → List Text → Type 0 = λ base xs. Dests base dests × Again base xs in
    let All : Trees → Bool → Type 0 = λ base b. Both base again × Kept base b in
    looked_read n part old new All kept (Ok all) (IsFoundFor uid)
    (looked_both n part Both All old mid new Kept again (Ok kept)
    (looked_both n part Dests Both old first mid Again dests (Ok again) (c.in_ok-dests.ensures.looked n part) (c.in_ok-again.ensures.looked n part) (λ base shown xs it. (shown, it)))
    (asked_looked n part (Ok kept) mid new Kept c.in_ok-kept.ensures.asked) (λ base shown b it. (shown, it)))
    (λ base shown. record {
      dests = shown.0.0 ∙ ap (λ xs. chosen false (rows_of base) uid xs) c.as_slice.ensures;
      again = shown.0.1 ∙ ap (λ xs. chosen true (rows_of base) uid xs) c.as_slice-2.ensures;
      kept = shown.1;
    })
