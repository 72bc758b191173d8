use Rattle.sqlite.specs.Held.{state}
use Rattle.dr_store_writes.specs.Effects.{GoesOn, HasSite}
use Rattle.dr_store_changes.specs.Writing.{IsMade}
use Rattle.dr_store_changes.proofs.Steps.{as_done, one_then}
use Rattle.dr_store_calls.specs.Adoptions.{AdoptsPlan, Clears, NotesPlan}
use Rattle.dr_store_calls.proofs.Changes.{adopts, owned_still}
use Rattle.dr_store_calls.proofs.plan.NewPlanTableChange.run.Goals as goal

pub returns-clause-step : goal.returns-clause-step
returns-clause-step g c =
    let n = c.args.n in
    let plan = c.args.self.now.cell.now in
    let old = state g.S.Store c.args.tx.now.conn.now in
    let mid = state g.S.Store c.clear.new.tx.conn.now in
    let new = state g.S.Store c.note_plan.new.tx.conn.now in
    one_then old mid new c.in_ok-clear.field-0 _ (HasSite old.now.trees) (GoesOn old mid × Clears old.now.trees mid.now.trees) (HasSite mid.now.trees) (GoesOn mid new × NotesPlan plan n c.args.self.now.moment mid.now.trees new.now.trees)
    (IsMade n (AdoptsPlan plan n c.args.self.now.moment) old new)
    (as_done old mid _ c.in_ok-clear.field-0 _ _ (λ clears owned. clears tt) c.in_ok-clear.ensures.step) (as_done mid new _ tt _ _ (λ notes. notes) c.in_ok-note_plan.ensures.step)
    (λ owned one. owned_still old mid owned one) (λ owned one two. adopts plan n c.args.self.now.moment old mid new one two)
