use Rattle.sqlite.specs.Held.{state}
use Rattle.dr_store_writes.proofs.Adds.{dropped_added}
use Rattle.dr_store_writes.proofs.adding.add_dropped.Goals as goal

pub returns-clause-step : goal.returns-clause-step
returns-clause-step g c = record {
  ok = λ clean inside is_open has. dropped_added (state g.S.Store c.args.tx.now.conn.now)
      (state g.S.Store c.run.new.tx.conn.now) c.args.n c.args.uid.now c.args.dest.now c.args.now
      c.run.result has
      (rw (c.as_bytes.ensures, c.as_bytes-2.ensures, c.number_cell.ensures, c.number_cell-2.ensures)
      at (c.run.ensures.runs clean inside));
  kept = c.run.ensures.kept;
  survives = c.run.ensures.survives;
}
