use Rattle.std.proofs.Common.{◌≡◌, ◌+◌, ◌++◌, ◌∷◌, [], ◌∙◌, Contains, List, take, refl, sym, subst}
use Rattle.std.proofs.Common.{arith, Ok}
use Rattle.std.proofs.lemmas.List.{take_more, take_all}
use Rattle.std.proofs.lemmas.List.Elements.{Contains-get_or}
use Rattle.sqlite.specs.declared.error.Error.{Error}
use Rattle.sqlite.specs.Held.{state}
use Rattle.dr_base.specs.Texts.{Text}
use Rattle.dr_ledger.specs.declared.item.Progress.TheVariants.{Waiting}
use Rattle.dr_store_writes.specs.Effects.{GoesOn, HasRow, SetsRow, StatementStep}
use Rattle.dr_store_changes.specs.Changes.{HasRows, Renews}
use Rattle.dr_store_changes.proofs.NewRows.{has_row_still, no_rows_renewed, one_row_renewed}
use Rattle.dr_store_changes.proofs.Steps.{as_done, one_then}
use Rattle.dr_store_changes.proofs.arriving.renew_rows.Goals as goal

pub loop-dest-init : goal.loop-dest-init
loop-dest-init g c =
    (refl, no_rows_renewed c.args.uid.now c.args.dests.now (state g.S.Store c.args.tx.now.conn.now))

pub loop-dest-preserved : goal.loop-dest-preserved
loop-dest-preserved g c =
    let uid = c.args.uid.now in
    let dests = c.args.dests.now in
    let i = c.loop-dest.dest-index in
    let dest = c.dest-item.result in
    let old = state g.S.Store c.args.tx.now.conn.now in
    let mid = state g.S.Store c.loop-dest.tx.conn.now in
    let new = state g.S.Store c.set_row.new.tx.conn.now in
    let e = take_more dests i dest c.loop-dest-test.true in
    let more : take (i + 1) dests ≡ take i dests ++ dest ∷ [] = rw (← c.dest-item.is) at e in
    let its : Contains dests dest = subst
    (λ d. Contains dests d) (sym c.dest-item.is)
    (Contains-get_or dests i dest c.loop-dest-test.true) in
    let P : List Text → Type 0 = λ ds. StatementStep {A = Unit {0}} {E = Error} (Ok tt) old new
    (HasRows uid dests old.now.trees
    → GoesOn old new × Renews uid ds old.now.trees new.now.trees) in (
      c.in_ok-set_row.ensures.same_reference ∙ c.loop-dest.invariant.0,
      subst P (sym more)
          (one_then old mid new tt (Ok tt) (HasRows uid dests old.now.trees)
          (GoesOn old mid × Renews uid (take i dests) old.now.trees mid.now.trees)
          (HasRow (uid, dest) mid.now.trees) (SetsRow (uid, dest) (Waiting 0 0) mid new)
          (GoesOn old new × Renews uid (take i dests ++ dest ∷ []) old.now.trees new.now.trees)
          c.loop-dest.invariant.1
          (as_done mid new _ tt _ _ (λ sets. sets) c.in_ok-set_row.ensures.step)
          (λ has done. has_row_still uid dest (take i dests) old mid (has dest its) done)
          (λ has done sets. one_row_renewed uid dest (take i dests) old mid new done sets)),
    )

pub returns-clause-same_reference : goal.returns-clause-same_reference
returns-clause-same_reference g c = c.loop-dest.invariant.0

pub returns-clause-step : goal.returns-clause-step
returns-clause-step g c =
    let old = state g.S.Store c.args.tx.now.conn.now in
    let new = state g.S.Store c.loop-dest.tx.conn.now in
    let P : List Text → Type 0 = λ ds. StatementStep {A = Unit {0}} {E = Error} (Ok tt) old new
    (HasRows c.args.uid.now c.args.dests.now old.now.trees
    → GoesOn old new × Renews c.args.uid.now ds old.now.trees new.now.trees) in
    subst P
    (take_all c.loop-dest.dest-index c.args.dests.now (omega (arith, c.loop-dest-test.false)))
    c.loop-dest.invariant.1
