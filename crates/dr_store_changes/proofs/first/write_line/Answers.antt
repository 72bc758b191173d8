use Rattle.sqlite.specs.Held.{state}
use Rattle.dr_store_writes.specs.Effects.{arrived_line}
use Rattle.dr_store_changes.specs.Changes.{AddsOnlyLine, AddsTargets}
use Rattle.dr_store_changes.proofs.FirstOnes.{step_then}
use Rattle.dr_store_changes.proofs.Steps.{as_done}
use Rattle.dr_store_changes.proofs.first.write_line.Goals as goal

pub returns-clause-step : goal.returns-clause-step
returns-clause-step g c =
    let old = state g.S.Store c.args.tx.now.conn.now in
    let mid = state g.S.Store c.add_line.new.tx.conn.now in
    let new = state g.S.Store c.add_targets.new.tx.conn.now in
    step_then old mid new c.in_ok-add_line.field-0 _ (Unit {0}) (AddsOnlyLine (arrived_line c.args.n c.args.moment 0 c.args.caller.now c.args.item.now)) (AddsTargets c.args.n c.args.names.now)
    (as_done old mid _ c.in_ok-add_line.field-0 _ _ (λ m. m) c.in_ok-add_line.ensures.step) (as_done mid new _ tt _ _ (λ m. m) c.in_ok-add_targets.ensures.step)
