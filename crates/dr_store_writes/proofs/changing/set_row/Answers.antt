use Rattle.sqlite.specs.Held.{state}
use Rattle.dr_store_writes.proofs.Sets.{row_set}
use Rattle.dr_store_writes.proofs.Casts.{bound_why}
use Rattle.dr_store_writes.proofs.changing.set_row.Goals as goal

pub returns-clause-step : goal.returns-clause-step
returns-clause-step g c = record {
  ok = λ clean inside is_open has. row_set (state g.S.Store c.args.tx.now.conn.now) (state g.S.Store c.run.new.tx.conn.now) (c.args.uid.now, c.args.dest.now) c.args.to c.run.result c.requires has (rw (c.as_bytes.ensures, c.as_bytes-2.ensures, c.state_cell.ensures, c.tries_cell.ensures, c.due_cell.ensures, c.why_cell.ensures, bound_why c.args.to) at (c.run.ensures.runs clean inside));
  kept = c.run.ensures.kept;
  survives = c.run.ensures.survives;
}
