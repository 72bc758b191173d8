use Rattle.sqlite.specs.Held.{state}
use Rattle.sqlite.specs.Order.{Row}
use Rattle.dr_ledger.specs.Pairs.{Pair}
use Rattle.dr_store_writes.specs.Effects.{AddsRow, HasRow, SetsRow, requeued_line}
use Rattle.dr_store_changes.specs.Changes.{Moved}
use Rattle.dr_store_changes.proofs.Movements.{moved, row_goes}
use Rattle.dr_store_changes.proofs.Steps.{as_done, one_then}
use Rattle.dr_store_changes.proofs.moving.requeue.Goals as goal

pub returns-clause-step : goal.returns-clause-step
returns-clause-step g c =
    let at : Pair = (c.args.uid.now, c.args.dest.now) in
    let line : Row = requeued_line c.args.n c.args.moment c.args.uid.now c.args.dest.now in
    let old = state g.S.Store c.args.tx.now.conn.now in
    let mid = state g.S.Store c.set_row.new.tx.conn.now in
    let new = state g.S.Store c.add_requeued.new.tx.conn.now in
    one_then old mid new c.in_ok-set_row.field-0 _ (HasRow at old.now.trees) (SetsRow at c.args.to old mid) (Unit {0}) (AddsRow 11 line mid new) (Moved at c.args.to line old new)
    c.in_ok-set_row.ensures.step (as_done mid new _ tt _ _ (λ adds any. adds) c.in_ok-add_requeued.ensures.step)
    (λ there row. row_goes at c.args.to old mid row) (λ there row more. moved at c.args.to line old mid new row more)
