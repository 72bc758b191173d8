use Rattle.sqlite.specs.Held.{state}
use Rattle.dr_store_writes.specs.Effects.{AddsCells, AddsRow, GoesOn, item_row, print_cells}
use Rattle.dr_store_changes.specs.Changes.{HasNeither, Stores}
use Rattle.dr_store_changes.proofs.Arrivals.{stores}
use Rattle.dr_store_changes.proofs.Steps.{as_done, one_then}
use Rattle.dr_store_changes.proofs.arriving.store.Goals as goal

pub returns-clause-step : goal.returns-clause-step
returns-clause-step g c =
    let item = c.args.item.now in
    let old = state g.S.Store c.args.tx.now.conn.now in
    let mid = state g.S.Store c.add_item.new.tx.conn.now in
    let new = state g.S.Store c.add_print.new.tx.conn.now in
    one_then old mid new c.in_ok-add_item.field-0 _ (HasNeither item.uid old.now.trees) (AddsRow 1 (item_row c.args.n item.uid item.key c.args.body.now) old mid) (Unit {0})
    (AddsCells 3 (print_cells item.uid item.size item.digest c.args.whole) mid new) (GoesOn old new × Stores item c.args.body.now c.args.whole old.now.trees new.now.trees)
    (as_done old mid _ c.in_ok-add_item.field-0 _ _ (λ adds any. adds) c.in_ok-add_item.ensures.step)
    (as_done mid new _ tt _ _ (λ adds any. adds) c.in_ok-add_print.ensures.step)
    (λ neither adds. (adds.goes_on, tt)) (λ neither adds more. stores c.args.n item.uid item.key item.size item.digest c.args.body.now c.args.whole old mid new neither adds more)
