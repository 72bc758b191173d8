use Rattle.std.proofs.Common.{◌≡◌, arith}
use Rattle.sqlite.specs.Held.{state}
use Rattle.sqlite.specs.State.{HasCleanDisk}
use Rattle.dr_store_schema.specs.Statements as text
use Rattle.dr_store_open.specs.Renewing.{all_calls}
use Rattle.dr_store_open.proofs.Answered.{three_tested}
use Rattle.dr_store_open.proofs.Queried.{calls_asked, kept_asked, rows_asked}
use Rattle.dr_store_open.proofs.sheets.test_moves.Goals as goal

pub returns-clause-answers : goal.returns-clause-answers
returns-clause-answers g c clean =
    let old = state g.S.Store c.args.tx.now.conn.now in
    let one = state g.S.Store c.test_rows.new.tx.conn.now in
    let two = state g.S.Store c.test_rows-2.new.tx.conn.now in
    let new = state g.S.Store c.test_rows-3.new.tx.conn.now in
    let sheets = c.args.sheets.now in
    let clean_two : HasCleanDisk two = omega (arith, c.test_rows-3.ensures.survives.clean, clean) in
    let clean_one : HasCleanDisk one = omega (arith, c.in_ok-test_rows-2.ensures.survives.clean, clean_two) in
    let first : c.as_slice.result.now ≡ sheets.kept.items = c.as_slice.ensures.value in
    let second : c.as_slice-2.result.now ≡ sheets.rows.items = c.as_slice-2.ensures.value in
    let third : c.as_slice-3.result.now ≡ sheets.lines.items = c.as_slice-3.ensures.value in
    three_tested c.test_rows-3.result text.all_kept text.all_rows all_calls old.now one.now two.now new.now sheets.kept.items sheets.rows.items sheets.lines.items
    (rw first at (c.in_ok-test_rows.ensures.answer clean_one kept_asked)) (rw second at (c.in_ok-test_rows-2.ensures.answer clean_two rows_asked)) (rw third at (c.test_rows-3.ensures.answer clean calls_asked))
