use Rattle.sqlite.specs.Held.{state}
use Rattle.dr_store_changes.specs.Bringing.{AsksToTake, TakesInItem}
use Rattle.dr_store_changes.specs.Changes.{NotesArrival}
use Rattle.dr_store_changes.proofs.FirstOnes.{step_then}
use Rattle.dr_store_changes.proofs.Steps.{as_done}
use Rattle.dr_store_changes.proofs.first.take_from.Goals as goal

pub returns-clause-step : goal.returns-clause-step
returns-clause-step g c =
    let item = c.args.item.now in
    let old = state g.S.Store c.args.tx.now.conn.now in
    let mid = state g.S.Store c.take.new.tx.conn.now in
    let new = state g.S.Store c.note_arrival.new.tx.conn.now in
    step_then old mid new c.in_ok-take.field-0 _ (AsksToTake c.args.taking item.uid old.now.trees) (TakesInItem c.args.taking item c.args.body.now) (NotesArrival (c.args.caller.now, item.uid))
    (as_done old mid _ c.in_ok-take.field-0 _ _ (λ m. m) c.in_ok-take.ensures.step) (as_done mid new _ tt _ _ (λ m any. m) c.in_ok-note_arrival.ensures.step)
