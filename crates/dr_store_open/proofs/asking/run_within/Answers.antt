use Rattle.std.proofs.Common.{◌≡◌}
use Rattle.sqlite.specs.Held.{state}
use Rattle.sqlite.specs.Values.{bound}
use Rattle.dr_store_open.proofs.Indexed.{ran_inside}
use Rattle.dr_store_open.proofs.asking.run_within.Goals as goal

pub returns-in-Ok-clause-runs : goal.returns-in-Ok-clause-runs
returns-in-Ok-clause-runs g c clean =
    ran_inside (c.execute.new.self.conn.now ≡ c.args.tx.now.conn.now) c.args.sql.now (bound c.args.params.now) (state g.S.Store c.args.tx.now.conn.now) (state g.S.Store c.execute.new.self.conn.now) c.execute.result c.in-Ok.field-0
    c.execute.ensures.ended (c.execute.ensures.runs clean) c.in-Ok.is
