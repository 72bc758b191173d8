use Rattle.sqlite.specs.Held.{state}
use Rattle.dr_store_open.proofs.Chains.{ready_again, ready_not}
use Rattle.dr_store_open.proofs.opening.open_on.Goals as goal

pub test_rows-requires : goal.test_rows-requires
test_rows-requires g c = c.requires

pub returns-in-Ok-clause-ready : goal.returns-in-Ok-clause-ready
returns-in-Ok-clause-ready g c =
    ready_again c.args.found.next (state g.S.Store c.args.conn.now) (state g.S.Store c.test_rows.new.conn) _ _ c.in-Ok.ensures.ready

pub returns-clause-ready : goal.returns-clause-ready
returns-clause-ready g c =
    ready_not c.args.found.next (state g.S.Store c.args.conn.now) (state g.S.Store c.test_rows.new.conn) _ c.in-Err.fault c.in-Err.ensures.ready
