use Rattle.std.proofs.Common.{arith}
use Rattle.sqlite.specs.Held.{state}
use Rattle.sqlite.specs.State.{HasCleanDisk}
use Rattle.dr_store_open.specs.Renewing.{IsMadeFor}
use Rattle.dr_store_open.proofs.Answered.{listed_still}
use Rattle.dr_store_open.proofs.Emptied.{made_still}
use Rattle.dr_store_open.proofs.making.fill.Goals as goal

pub returns-clause-listed : goal.returns-clause-listed
returns-clause-listed g c clean =
    let old = state g.S.Store c.index_arrivals.new.tx.conn.now in
    let new = state g.S.Store c.test_made.new.tx.conn.now in
    let early : HasCleanDisk old = omega (arith, c.test_made.ensures.survives.clean, clean) in
    listed_still (IsMadeFor c.args.node.now c.args.cell.now old.now) c.test_made.result old.now new.now (c.in_ok-index_arrivals.ensures.listed early) (c.test_made.ensures.made clean)

pub returns-clause-made : goal.returns-clause-made
returns-clause-made g c clean =
    let old = state g.S.Store c.index_arrivals.new.tx.conn.now in
    let new = state g.S.Store c.test_made.new.tx.conn.now in
    made_still c.test_made.result old.now new.now c.args.node.now c.args.cell.now (c.test_made.ensures.made clean)
