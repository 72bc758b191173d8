use Rattle.std.proofs.Common.{arith}
use Rattle.sqlite.specs.Held.{state}
use Rattle.sqlite.specs.State.{HasCleanDisk}
use Rattle.dr_store_schema.specs.Statements as text
use Rattle.dr_store_open.proofs.Answered.{three_answers}
use Rattle.dr_store_open.proofs.Queried.{arrivals_asked, items_asked, site_asked}
use Rattle.dr_store_open.proofs.sheets.ask_stock.Goals as goal

pub returns-clause-answers : goal.returns-clause-answers
returns-clause-answers g c clean =
    let old = state g.S.Store c.args.tx.now.conn.now in
    let one = state g.S.Store c.ask_rows.new.tx.conn.now in
    let two = state g.S.Store c.ask_rows-2.new.tx.conn.now in
    let new = state g.S.Store c.ask_rows-3.new.tx.conn.now in
    let clean_two : HasCleanDisk two = omega (arith, c.in_ok-arrivals.ensures.survives.clean, clean) in
    let clean_one : HasCleanDisk one = omega (arith, c.in_ok-items.ensures.survives.clean, clean_two) in
    three_answers text.the_site text.all_items text.all_arrivals old.now one.now two.now new.now c.in_ok-site.site.items c.in_ok-items.items.items c.in_ok-arrivals.arrivals.items
    (c.in_ok-site.ensures.answer clean_one site_asked) (c.in_ok-items.ensures.answer clean_two items_asked) (c.in_ok-arrivals.ensures.answer clean arrivals_asked)
