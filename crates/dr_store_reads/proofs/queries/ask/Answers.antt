use Rattle.sqlite.specs.Held.{state}
use Rattle.sqlite.specs.Values.{bound}
use Rattle.dr_store_reads.proofs.Asking.{asked_failed, asked_shown}
use Rattle.dr_store_reads.proofs.queries.ask.Goals as goal

pub returns-in-Ok : goal.returns-in-Ok
returns-in-Ok g c = record {
  asked = asked_shown (λ rows. rows.items) c.args.sql.now (bound c.args.params.now) (state g.S.Store c.args.conn.now) (state g.S.Store c.query_all.new.self) c.in-Ok.rows c.in-Ok.ensures.ok
      c.query_all.ensures.mode c.query_all.ensures.survives;
}

pub returns-in-Err : goal.returns-in-Err
returns-in-Err g c = record {
  asked = asked_failed c.args.sql.now (bound c.args.params.now) (state g.S.Store c.args.conn.now) (state g.S.Store c.query_all.new.self) c.in-Err.error c.fault_of.result _ c.in-Err.ensures.err
      c.query_all.ensures.mode c.query_all.ensures.survives c.fault_of.ensures.own;
}
