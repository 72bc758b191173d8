use Rattle.std.proofs.Common.{arith}
use Rattle.sqlite.specs.Held.{state}
use Rattle.sqlite.specs.State.{HasCleanDisk}
use Rattle.dr_store_open.specs.Renewing.{AreSheetsOf}
use Rattle.dr_store_open.proofs.Answered.{listed_still, told_again}
use Rattle.dr_store_open.proofs.renewing.renew.Goals as goal

pub returns-clause-listed : goal.returns-clause-listed
returns-clause-listed g c clean =
    let made = state g.S.Store c.index_arrivals.new.tx.conn.now in
    let new = state g.S.Store c.test_sheets.new.tx.conn.now in
    let early : HasCleanDisk made = omega (arith, c.test_sheets.ensures.survives.clean, clean) in
    listed_still (AreSheetsOf made.now c.in_ok-sheets.sheets) c.test_sheets.result made.now new.now (c.in_ok-index_arrivals.ensures.listed early) (c.test_sheets.ensures.answers clean)

pub returns-clause-kept : goal.returns-clause-kept
returns-clause-kept g c clean =
    let old = state g.S.Store c.args.tx.now.conn.now in
    let one = state g.S.Store c.ask_sheets.new.tx.conn.now in
    let made = state g.S.Store c.index_arrivals.new.tx.conn.now in
    let new = state g.S.Store c.test_sheets.new.tx.conn.now in
    let early : HasCleanDisk one = omega (arith, c.in_ok-rewrite.ensures.survives.clean, c.in_ok-index_arrivals.ensures.survives.clean, c.test_sheets.ensures.survives.clean, clean) in
    told_again c.test_sheets.result old.now made.now new.now c.in_ok-sheets.sheets (c.in_ok-sheets.ensures.answers early).0 (c.test_sheets.ensures.answers clean)
