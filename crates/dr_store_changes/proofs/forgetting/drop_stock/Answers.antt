use Rattle.sqlite.specs.Held.{state}
use Rattle.dr_store_writes.specs.Effects.{DropsOf, GoesOn}
use Rattle.dr_store_changes.specs.Changes.{DropsStock}
use Rattle.dr_store_changes.proofs.Forgotten.{stock_left}
use Rattle.dr_store_changes.proofs.Steps.{as_done, one_then}
use Rattle.dr_store_changes.proofs.forgetting.drop_stock.Goals as goal

pub returns-clause-step : goal.returns-clause-step
returns-clause-step g c =
    let uid = c.args.uid.now in
    let old = state g.S.Store c.args.tx.now.conn.now in
    let mid = state g.S.Store c.drop_print.new.tx.conn.now in
    let new = state g.S.Store c.drop_item.new.tx.conn.now in
    one_then old mid new c.in_ok-drop_print.field-0 _ (Unit {0}) (DropsOf 3 1 uid old mid) (Unit {0}) (DropsOf 1 1 uid mid new) (GoesOn old new × DropsStock uid old.now.trees new.now.trees)
    (as_done old mid _ c.in_ok-drop_print.field-0 _ _ (λ d any. d) c.in_ok-drop_print.ensures.step) (as_done mid new _ tt _ _ (λ d any. d) c.in_ok-drop_item.ensures.step)
    (λ any d. (d.goes_on, tt)) (λ any d e. stock_left uid old mid new d e)
