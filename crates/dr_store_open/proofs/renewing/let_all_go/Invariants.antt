use Rattle.std.proofs.Common.{◌≡◌}
use Rattle.sqlite.specs.Held.{state}
use Rattle.dr_store_writes.specs.Effects.{CommitsNothing}
use Rattle.dr_store_open.proofs.renewing.let_all_go.Given as goal

abbrev pub invariant-loop-print : goal.invariant-loop-print
invariant-loop-print g l = (l.tx.conn.ghost_name ≡ l.fn.tx.conn.ghost_name) × CommitsNothing (state g.S.Store l.fn.tx.conn.now) (state g.S.Store l.tx.conn.now)
