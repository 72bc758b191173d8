use Rattle.std.proofs.Common.{refl, true}
use Rattle.sqlite.specs.Held.{state}
use Rattle.sqlite.specs.Order.{Row}
use Rattle.dr_ledger.specs.Pairs.{Pair}
use Rattle.dr_store_writes.specs.Effects.{GoesOn, settled_line}
use Rattle.dr_store_changes.specs.Changes.{AsksForRow, HasBoth, LetsGo, Moved, MovesOn}
use Rattle.dr_store_changes.specs.Writing.{IsMade}
use Rattle.dr_store_changes.proofs.Movements.{both_there, made_going}
use Rattle.dr_store_changes.proofs.Steps.{as_done, one_then}
use Rattle.dr_store_changes.proofs.moving.settle_and_let_go.Goals as goal

pub returns-clause-step : goal.returns-clause-step
returns-clause-step g c =
    let at : Pair = (c.args.uid.now, c.args.dest.now) in
    let line : Row = settled_line c.args.n c.args.uid.now c.args.dest.now c.args.outcome c.args.now in
    let old = state g.S.Store c.args.tx.now.conn.now in
    let mid = state g.S.Store c.settle.new.tx.conn.now in
    let new = state g.S.Store c.let_go.new.tx.conn.now in
    one_then old mid new c.in_ok-settle.field-0 _ (AsksForRow at old.now.trees) (Moved at c.args.to line old mid) (HasBoth at.0 mid.now.trees) (GoesOn mid new × LetsGo at.0 mid.now.trees new.now.trees)
    (IsMade c.args.n (MovesOn at c.args.to line true) old new)
    (as_done old mid _ c.in_ok-settle.field-0 _ _ (λ moves asks. moves asks.0) c.in_ok-settle.ensures.step) (as_done mid new _ tt _ _ (λ gone. gone) c.in_ok-let_go.ensures.step)
    (λ asks m. both_there at c.args.to line old mid asks.1 m) (λ asks m gone. made_going c.args.n at c.args.to line old mid new refl m gone)
