use Rattle.sqlite.specs.Held.{state}
use Rattle.sqlite.specs.Order.{Row}
use Rattle.dr_ledger.specs.declared.item.Progress.TheVariants.{Dropped}
use Rattle.dr_ledger.specs.Pairs.{Pair}
use Rattle.dr_store_writes.specs.Effects.{DropsOf, HasRow, dropped_line}
use Rattle.dr_store_changes.specs.Changes.{GivenUp, Moved}
use Rattle.dr_store_changes.proofs.Dropped.{arrivals_gone, row_moved}
use Rattle.dr_store_changes.proofs.Steps.{as_done, one_then}
use Rattle.dr_store_changes.proofs.dropping.give_up.Goals as goal

pub returns-clause-step : goal.returns-clause-step
returns-clause-step g c =
    let n = c.args.n in
    let uid = c.args.uid.now in
    let dest = c.args.dest.now in
    let now = c.args.now in
    let at : Pair = (uid, dest) in
    let line : Row = dropped_line n uid dest now in
    let old = state g.S.Store c.args.tx.now.conn.now in
    let mid = state g.S.Store c.drop_row.new.tx.conn.now in
    let new = state g.S.Store c.drop_arrivals_of.new.tx.conn.now in
    one_then old mid new c.in_ok-drop_row.field-0 _ (HasRow at old.now.trees)
    (Moved at Dropped line old mid) (Unit {0}) (DropsOf 5 2 uid mid new)
    (GivenUp uid dest now n old new) c.in_ok-drop_row.ensures.step
    (as_done mid new _ tt _ _ (λ drops any. drops) c.in_ok-drop_arrivals_of.ensures.step)
    (λ there m. row_moved at line old mid m)
    (λ there m drops. arrivals_gone uid dest now n old mid new m drops)
