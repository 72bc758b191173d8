use Rattle.sqlite.specs.Held.{state}
use Rattle.dr_store_open.proofs.Chains.{ready_still}
use Rattle.dr_store_open.proofs.bodies.test_rows.Goals as goal

pub returns-in-InFile-clause-ready : goal.returns-in-InFile-clause-ready
returns-in-InFile-clause-ready g c = ready_still c.args.found.now.next (state g.S.Store c.args.conn.now) _ c.requires
