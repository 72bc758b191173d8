use Rattle.sqlite.specs.Held.{state}
use Rattle.dr_store_changes.specs.Changes.{AddsRows, HasRows, Renews}
use Rattle.dr_store_changes.proofs.FirstOnes.{step_then}
use Rattle.dr_store_changes.proofs.Steps.{as_done}
use Rattle.dr_store_changes.proofs.first.wait_for.Goals as goal

pub returns-clause-step : goal.returns-clause-step
returns-clause-step g c =
    let uid = c.args.uid.now in
    let again = c.args.again.now in
    let old = state g.S.Store c.args.tx.now.conn.now in
    let mid = state g.S.Store c.renew_rows.new.tx.conn.now in
    let new = state g.S.Store c.add_rows.new.tx.conn.now in
    step_then old mid new c.in_ok-renew_rows.field-0 _ (HasRows uid again old.now.trees)
    (Renews uid again) (AddsRows uid c.args.dests.now)
    (as_done old mid _ c.in_ok-renew_rows.field-0 _ _ (λ m. m) c.in_ok-renew_rows.ensures.step)
    (as_done mid new _ tt _ _ (λ m. m) c.in_ok-add_rows.ensures.step)
