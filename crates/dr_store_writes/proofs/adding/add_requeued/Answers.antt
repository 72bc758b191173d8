use Rattle.sqlite.specs.Held.{state}
use Rattle.dr_store_writes.proofs.Adds.{requeued_added}
use Rattle.dr_store_writes.proofs.Casts.{bound_moment}
use Rattle.dr_store_writes.proofs.adding.add_requeued.Goals as goal

pub returns-clause-step : goal.returns-clause-step
returns-clause-step g c = record {
  ok = λ clean inside is_open has. requeued_added (state g.S.Store c.args.tx.now.conn.now) (state g.S.Store c.run.new.tx.conn.now) c.args.n c.args.moment c.args.uid.now c.args.dest.now c.run.result has (rw (c.as_bytes.ensures, c.as_bytes-2.ensures, c.number_cell.ensures, c.moment_cell.ensures, bound_moment c.args.moment) at (c.run.ensures.runs clean inside));
  kept = c.run.ensures.kept;
  survives = c.run.ensures.survives;
}
