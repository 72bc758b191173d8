use Rattle.sqlite.specs.Held.{state}
use Rattle.dr_store_writes.proofs.Leaves.{rows_of_left}
use Rattle.dr_store_writes.proofs.dropping.drop_rows_of.Goals as goal

pub returns-clause-step : goal.returns-clause-step
returns-clause-step g c = record {
  ok = λ clean inside is_open has. rows_of_left (state g.S.Store c.args.tx.now.conn.now) (state g.S.Store c.run.new.tx.conn.now) c.args.uid.now c.run.result has (rw c.as_bytes.ensures at (c.run.ensures.runs clean inside));
  kept = c.run.ensures.kept;
  survives = c.run.ensures.survives;
}
