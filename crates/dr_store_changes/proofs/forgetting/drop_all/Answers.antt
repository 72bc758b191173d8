use Rattle.sqlite.specs.Held.{state}
use Rattle.dr_store_changes.specs.Changes.{DropsMoves, DropsStock}
use Rattle.dr_store_changes.proofs.FirstOnes.{step_then}
use Rattle.dr_store_changes.proofs.Steps.{as_done}
use Rattle.dr_store_changes.proofs.forgetting.drop_all.Goals as goal

pub returns-clause-step : goal.returns-clause-step
returns-clause-step g c =
    let uid = c.args.uid.now in
    let old = state g.S.Store c.args.tx.now.conn.now in
    let mid = state g.S.Store c.drop_moves.new.tx.conn.now in
    let new = state g.S.Store c.drop_stock.new.tx.conn.now in
    step_then old mid new c.in_ok-drop_moves.field-0 _ (Unit {0}) (DropsMoves uid) (DropsStock uid)
    (as_done old mid _ c.in_ok-drop_moves.field-0 _ _ (λ m. m) c.in_ok-drop_moves.ensures.step) (as_done mid new _ tt _ _ (λ m. m) c.in_ok-drop_stock.ensures.step)
