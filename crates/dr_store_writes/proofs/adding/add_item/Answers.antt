use Rattle.sqlite.specs.Held.{state}
use Rattle.dr_store_writes.proofs.Adds.{item_added}
use Rattle.dr_store_writes.proofs.adding.add_item.Goals as goal

pub returns-clause-step : goal.returns-clause-step
returns-clause-step g c = record {
  ok = λ clean inside is_open has. item_added (state g.S.Store c.args.tx.now.conn.now) (state g.S.Store c.run.new.tx.conn.now) c.args.n c.args.uid.now c.args.key.now c.args.body.now c.run.result has (rw (c.as_bytes.ensures, c.as_bytes-2.ensures, c.as_bytes-3.ensures, c.as_bytes-4.ensures, c.number_cell.ensures, c.syntax_cell.ensures) at (c.run.ensures.runs clean inside));
  kept = c.run.ensures.kept;
  survives = c.run.ensures.survives;
}
