use Rattle.std.proofs.Common.{sym, subst}
use Rattle.sqlite.specs.declared.error.Error.{Error}
use Rattle.sqlite.specs.Held.{state}
use Rattle.dr_store_writes.specs.Effects.{GoesOn, StatementStep}
use Rattle.dr_store_changes.specs.declared.first.Taking.{Taking}
use Rattle.dr_store_changes.specs.Bringing.{AsksToTake, TakesInItem}
use Rattle.dr_store_changes.proofs.FirstOnes.{bare_taken, new_taken}
use Rattle.dr_store_changes.proofs.Steps.{step_as}
use Rattle.dr_store_changes.proofs.first.take.Goals as goal

pub returns-in-New-clause-step : goal.returns-in-New-clause-step
returns-in-New-clause-step g c =
    let item = c.args.item.now in
    let body = c.args.body.now in
    let old = state g.S.Store c.args.tx.now.conn.now in
    let new = state g.S.Store c.store.new.tx.conn.now in
    let P : Taking → Type 0 = λ how. StatementStep {A = Unit {0}} {E = Error} c.store.result old new (AsksToTake how item.uid old.now.trees → GoesOn old new × TakesInItem how item body old.now.trees new.now.trees) in
    subst P (sym c.in-New.is) (step_as old new c.store.result _ _ (λ m neither. let it = m neither in (it.0, new_taken item body old.now.trees new.now.trees it.1)) c.store.ensures.step)

pub returns-in-Bare-clause-step : goal.returns-in-Bare-clause-step
returns-in-Bare-clause-step g c =
    let item = c.args.item.now in
    let body = c.args.body.now in
    let old = state g.S.Store c.args.tx.now.conn.now in
    let new = state g.S.Store c.store-in-Bare.new.tx.conn.now in
    let P : Taking → Type 0 = λ how. StatementStep {A = Unit {0}} {E = Error} c.store-in-Bare.result old new (AsksToTake how item.uid old.now.trees → GoesOn old new × TakesInItem how item body old.now.trees new.now.trees) in
    subst P (sym c.in-Bare.is) (step_as old new c.store-in-Bare.result _ _ (λ m neither. let it = m neither in (it.0, bare_taken item body old.now.trees new.now.trees neither it.1)) c.store-in-Bare.ensures.step)
