use Rattle.sqlite.specs.Held.{state}
use Rattle.dr_store_writes.proofs.Emptied.{targets_left}
use Rattle.dr_store_writes.proofs.dropping.drop_targets.Goals as goal

pub returns-clause-step : goal.returns-clause-step
returns-clause-step g c = record {
  ok = λ clean inside is_open has. targets_left (state g.S.Store c.args.tx.now.conn.now) (state g.S.Store c.run.new.tx.conn.now) c.run.result has (c.run.ensures.runs clean inside);
  kept = c.run.ensures.kept;
  survives = c.run.ensures.survives;
}
