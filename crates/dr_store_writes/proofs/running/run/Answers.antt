use Rattle.std.proofs.Common.{ap}
use Rattle.sqlite.specs.Held.{state}
use Rattle.sqlite.specs.Values.{bound}
use Rattle.dr_store_writes.proofs.Keeping.{keeps}
use Rattle.dr_store_writes.proofs.running.run.Goals as goal

pub returns-clause-kept : goal.returns-clause-kept
returns-clause-kept g c clean =
    keeps 0 c.args.sql.now (bound c.args.params.now) (state g.S.Store c.args.tx.now.conn.now) (state g.S.Store c.execute.new.self.conn.now) c.execute.result
    (λ over. ap (state g.S.Store) (c.execute.ensures.ended over).1) (λ inside. c.execute.ensures.runs clean inside)
