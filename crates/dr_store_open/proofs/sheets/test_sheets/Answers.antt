use Rattle.std.proofs.Common.{arith}
use Rattle.sqlite.specs.Held.{state}
use Rattle.sqlite.specs.State.{HasCleanDisk}
use Rattle.dr_store_open.proofs.Answered.{both_tested}
use Rattle.dr_store_open.proofs.sheets.test_sheets.Goals as goal

pub returns-clause-answers : goal.returns-clause-answers
returns-clause-answers g c clean =
    let old = state g.S.Store c.args.tx.now.conn.now in
    let mid = state g.S.Store c.test_stock.new.tx.conn.now in
    let new = state g.S.Store c.test_moves.new.tx.conn.now in
    let early : HasCleanDisk mid = omega (arith, c.test_moves.ensures.survives.clean, clean) in
    both_tested c.test_moves.result old.now mid.now new.now c.args.sheets.now (c.in_ok-test_stock.ensures.answers early) (c.test_moves.ensures.answers clean)
