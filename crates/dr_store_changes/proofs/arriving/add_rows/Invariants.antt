use Rattle.std.proofs.Common.{◌≡◌, Ok, take}
use Rattle.sqlite.specs.declared.error.Error.{Error}
use Rattle.sqlite.specs.Held.{state}
use Rattle.dr_store_writes.specs.Effects.{GoesOn, StatementStep}
use Rattle.dr_store_changes.specs.Changes.{AddsRows}
use Rattle.dr_store_changes.proofs.arriving.add_rows.Given as goal

abbrev pub invariant-loop-dest : goal.invariant-loop-dest
invariant-loop-dest g l = (l.tx.conn.ghost_name ≡ l.fn.tx.conn.ghost_name)
    × StatementStep {A = Unit {0}} {E = Error} (Ok tt) (state g.S.Store l.fn.tx.conn.now) (state g.S.Store l.tx.conn.now) (Unit {0}
    → GoesOn (state g.S.Store l.fn.tx.conn.now) (state g.S.Store l.tx.conn.now) × AddsRows l.uid (take l.dest-index l.dests) (state g.S.Store l.fn.tx.conn.now).now.trees (state g.S.Store l.tx.conn.now).now.trees)
