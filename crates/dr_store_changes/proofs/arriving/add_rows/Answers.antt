use Rattle.std.proofs.Common.{◌≡◌, ◌+◌, ◌++◌, ◌∷◌, [], ◌∙◌, List, take, refl, sym, subst, arith, Ok}
use Rattle.std.proofs.lemmas.List.{take_more, take_all}
use Rattle.sqlite.specs.declared.error.Error.{Error}
use Rattle.sqlite.specs.Held.{state}
use Rattle.dr_base.specs.Texts.{Text}
use Rattle.dr_store_writes.specs.Effects.{AddsCells, GoesOn, StatementStep, new_cells}
use Rattle.dr_store_changes.specs.Changes.{AddsRows}
use Rattle.dr_store_changes.proofs.NewRows.{no_rows_yet, one_row_more}
use Rattle.dr_store_changes.proofs.Steps.{as_done, one_then}
use Rattle.dr_store_changes.proofs.arriving.add_rows.Goals as goal

pub loop-dest-init : goal.loop-dest-init
loop-dest-init g c = (refl, no_rows_yet c.args.uid.now (state g.S.Store c.args.tx.now.conn.now))

pub loop-dest-preserved : goal.loop-dest-preserved
loop-dest-preserved g c =
    let uid = c.args.uid.now in
    let dests = c.args.dests.now in
    let i = c.loop-dest.dest-index in
    let dest = c.dest-item.result in
    let old = state g.S.Store c.args.tx.now.conn.now in
    let mid = state g.S.Store c.loop-dest.tx.conn.now in
    let new = state g.S.Store c.add_row.new.tx.conn.now in
    let e = take_more dests i dest c.loop-dest-test.true in
    let more : take (i + 1) dests ≡ take i dests ++ dest ∷ [] = rw (← c.dest-item.is) at e in
    let P : List Text → Type 0 = λ ds. StatementStep {A = Unit {0}} {E = Error} (Ok tt) old new (Unit {0} → GoesOn old new × AddsRows uid ds old.now.trees new.now.trees) in (
      c.in_ok-add_row.ensures.same_reference ∙ c.loop-dest.invariant.0,
      subst P (sym more) (one_then old mid new tt (Ok tt) (Unit {0}) (GoesOn old mid × AddsRows uid (take i dests) old.now.trees mid.now.trees) (Unit {0}) (AddsCells 9 (new_cells (uid, dest)) mid new)
          (GoesOn old new × AddsRows uid (take i dests ++ dest ∷ []) old.now.trees new.now.trees) c.loop-dest.invariant.1 (as_done mid new _ tt _ _ (λ adds any. adds) c.in_ok-add_row.ensures.step)
          (λ any done. (done.0, tt)) (λ any done added. one_row_more uid dest (take i dests) old mid new done added)),
    )

pub returns-clause-same_reference : goal.returns-clause-same_reference
returns-clause-same_reference g c = c.loop-dest.invariant.0

pub returns-clause-step : goal.returns-clause-step
returns-clause-step g c =
    let old = state g.S.Store c.args.tx.now.conn.now in
    let new = state g.S.Store c.loop-dest.tx.conn.now in
    let P : List Text → Type 0 = λ ds. StatementStep {A = Unit {0}} {E = Error} (Ok tt) old new (Unit {0} → GoesOn old new × AddsRows c.args.uid.now ds old.now.trees new.now.trees) in
    subst P (take_all c.loop-dest.dest-index c.args.dests.now (omega (arith, c.loop-dest-test.false))) c.loop-dest.invariant.1
