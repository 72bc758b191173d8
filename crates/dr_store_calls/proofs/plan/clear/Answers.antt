use Rattle.sqlite.specs.Held.{state}
use Rattle.dr_store_writes.specs.Effects.{DropsArrivals, DropsOver, GoesOn}
use Rattle.dr_store_changes.proofs.Steps.{as_done, one_then}
use Rattle.dr_store_calls.specs.Adoptions.{Clears}
use Rattle.dr_store_calls.proofs.Changes.{cleared}
use Rattle.dr_store_calls.proofs.plan.clear.Goals as goal

pub returns-clause-step : goal.returns-clause-step
returns-clause-step g c =
    let old = state g.S.Store c.args.tx.now.conn.now in
    let mid = state g.S.Store c.drop_arrivals.new.tx.conn.now in
    let new = state g.S.Store c.drop_over.new.tx.conn.now in
    one_then old mid new c.in_ok-drop_arrivals.field-0 _ (Unit {0}) (DropsArrivals old mid) (Unit {0}) (DropsOver mid new) (GoesOn old new × Clears old.now.trees new.now.trees)
    (as_done old mid _ c.in_ok-drop_arrivals.field-0 _ _ (λ drops any. drops) c.in_ok-drop_arrivals.ensures.step) (as_done mid new _ tt _ _ (λ drops any. drops) c.in_ok-drop_over.ensures.step)
    (λ any drops. (drops.goes_on, tt)) (λ any a d. cleared old mid new a d)
