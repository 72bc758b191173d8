use Rattle.std.proofs.Common.{◌≡◌, arith}
use Rattle.sqlite.specs.Held.{state}
use Rattle.sqlite.specs.State.{HasCleanDisk}
use Rattle.dr_store_schema.specs.Statements as text
use Rattle.dr_store_open.proofs.Answered.{three_tested}
use Rattle.dr_store_open.proofs.Queried.{arrivals_asked, items_asked, site_asked}
use Rattle.dr_store_open.proofs.sheets.test_stock.Goals as goal

pub returns-clause-answers : goal.returns-clause-answers
returns-clause-answers g c clean =
    let old = state g.S.Store c.args.tx.now.conn.now in
    let one = state g.S.Store c.test_rows.new.tx.conn.now in
    let two = state g.S.Store c.test_rows-2.new.tx.conn.now in
    let new = state g.S.Store c.test_rows-3.new.tx.conn.now in
    let sheets = c.args.sheets.now in
    let clean_two : HasCleanDisk two = omega (arith, c.test_rows-3.ensures.survives.clean, clean) in
    let clean_one : HasCleanDisk one = omega (arith, c.in_ok-test_rows-2.ensures.survives.clean, clean_two) in
    let first : c.as_slice.result.now ≡ sheets.site.items = c.as_slice.ensures.value in
    let second : c.as_slice-2.result.now ≡ sheets.items.items = c.as_slice-2.ensures.value in
    let third : c.as_slice-3.result.now ≡ sheets.arrivals.items = c.as_slice-3.ensures.value in
    three_tested c.test_rows-3.result text.the_site text.all_items text.all_arrivals old.now one.now two.now new.now sheets.site.items sheets.items.items sheets.arrivals.items
    (rw first at (c.in_ok-test_rows.ensures.answer clean_one site_asked)) (rw second at (c.in_ok-test_rows-2.ensures.answer clean_two items_asked)) (rw third at (c.test_rows-3.ensures.answer clean arrivals_asked))
