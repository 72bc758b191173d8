use Rattle.sqlite.specs.Held.{state}
use Rattle.dr_store_open.proofs.Indexed.{index_listed}
use Rattle.dr_store_open.proofs.making.index_arrivals.Goals as goal

pub returns-clause-listed : goal.returns-clause-listed
returns-clause-listed g c clean =
    index_listed c.run_within.result (state g.S.Store c.args.tx.now.conn.now) (state g.S.Store c.run_within.new.tx.conn.now) (c.run_within.ensures.runs clean)
