use Rattle.std.proofs.Common.{arith}
use Rattle.sqlite.specs.Held.{state}
use Rattle.sqlite.specs.State.{HasCleanDisk}
use Rattle.dr_store_schema.specs.Statements as text
use Rattle.dr_store_open.specs.Renewing.{all_calls}
use Rattle.dr_store_open.proofs.Answered.{three_answers}
use Rattle.dr_store_open.proofs.Queried.{calls_asked, kept_asked, rows_asked}
use Rattle.dr_store_open.proofs.sheets.ask_moves.Goals as goal

pub returns-clause-answers : goal.returns-clause-answers
returns-clause-answers g c clean =
    let old = state g.S.Store c.args.tx.now.conn.now in
    let one = state g.S.Store c.ask_rows.new.tx.conn.now in
    let two = state g.S.Store c.ask_rows-2.new.tx.conn.now in
    let new = state g.S.Store c.ask_rows-3.new.tx.conn.now in
    let clean_two : HasCleanDisk two = omega (arith, c.in_ok-lines.ensures.survives.clean, clean) in
    let clean_one : HasCleanDisk one = omega (arith, c.in_ok-rows.ensures.survives.clean, clean_two) in
    three_answers text.all_kept text.all_rows all_calls old.now one.now two.now new.now c.in_ok-kept.kept.items c.in_ok-rows.rows.items c.in_ok-lines.lines.items
    (c.in_ok-kept.ensures.answer clean_one kept_asked) (c.in_ok-rows.ensures.answer clean_two rows_asked) (c.in_ok-lines.ensures.answer clean calls_asked)
