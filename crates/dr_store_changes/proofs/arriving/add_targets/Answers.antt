use Rattle.std.proofs.Common.{◌≡◌, ◌+◌, ◌++◌, ◌∷◌, [], ◌∙◌, List, take, refl, sym, subst, arith, Ok}
use Rattle.std.proofs.lemmas.List.{take_more, take_all}
use Rattle.sqlite.specs.declared.error.Error.{Error}
use Rattle.sqlite.specs.Held.{state}
use Rattle.dr_base.specs.Texts.{Text}
use Rattle.dr_store_writes.specs.Effects.{AddsCells, GoesOn, StatementStep, target_cells}
use Rattle.dr_store_changes.specs.Changes.{AddsTargets}
use Rattle.dr_store_changes.proofs.Sets.{no_targets_yet, one_target_more}
use Rattle.dr_store_changes.proofs.Steps.{as_done, one_then}
use Rattle.dr_store_changes.proofs.arriving.add_targets.Goals as goal

pub loop-name-init : goal.loop-name-init
loop-name-init g c = (refl, no_targets_yet c.args.n (state g.S.Store c.args.tx.now.conn.now))

pub loop-name-preserved : goal.loop-name-preserved
loop-name-preserved g c =
    let n = c.args.n in
    let names = c.args.names.now in
    let i = c.loop-name.name-index in
    let name = c.name-item.result in
    let old = state g.S.Store c.args.tx.now.conn.now in
    let mid = state g.S.Store c.loop-name.tx.conn.now in
    let new = state g.S.Store c.add_target.new.tx.conn.now in
    let e = take_more names i name c.loop-name-test.true in
    let more : take (i + 1) names ≡ take i names ++ name ∷ [] = rw (← c.name-item.is) at e in
    let P : List Text → Type 0 = λ ds. StatementStep {A = Unit {0}} {E = Error} (Ok tt) old new (Unit {0} → GoesOn old new × AddsTargets n ds old.now.trees new.now.trees) in (
      c.in_ok-add_target.ensures.same_reference ∙ c.loop-name.invariant.0,
      subst P (sym more) (one_then old mid new tt (Ok tt) (Unit {0}) (GoesOn old mid × AddsTargets n (take i names) old.now.trees mid.now.trees) (Unit {0}) (AddsCells 12 (target_cells n name) mid new)
          (GoesOn old new × AddsTargets n (take i names ++ name ∷ []) old.now.trees new.now.trees) c.loop-name.invariant.1 (as_done mid new _ tt _ _ (λ adds any. adds) c.in_ok-add_target.ensures.step)
          (λ any done. (done.0, tt)) (λ any done added. one_target_more n name (take i names) old mid new done added)),
    )

pub returns-clause-same_reference : goal.returns-clause-same_reference
returns-clause-same_reference g c = c.loop-name.invariant.0

pub returns-clause-step : goal.returns-clause-step
returns-clause-step g c =
    let old = state g.S.Store c.args.tx.now.conn.now in
    let new = state g.S.Store c.loop-name.tx.conn.now in
    let P : List Text → Type 0 = λ ds. StatementStep {A = Unit {0}} {E = Error} (Ok tt) old new (Unit {0} → GoesOn old new × AddsTargets c.args.n ds old.now.trees new.now.trees) in
    subst P (take_all c.loop-name.name-index c.args.names.now (omega (arith, c.loop-name-test.false))) c.loop-name.invariant.1
