use Rattle.std.proofs.Common.{◌++◌}
use Rattle.std.specs.Prelude.{codes, option_copied}
use Rattle.dr_run_page.specs.Documents.{buttons, held_cells}
use Rattle.dr_run_answer.proofs.Chained.{chained}
use Rattle.dr_run_page.proofs.written.put_held.Goals as goal

pub returns : goal.returns
returns c =
    let old = c.args.out.now.items in
    let cells = held_cells c.args.uid.now c.args.dest.now c.args.cause in
    let forms = buttons (option_copied c.args.key) c.args.uid.now c.args.dest.now in
    let one = chained old cells forms c.put_cells.new.out.items c.put_buttons.new.out.items
    c.in_ok-put_cells.ensures c.in_ok-put_buttons.ensures in
    chained old (cells ++ forms) (codes "</td></tr>\n") c.put_buttons.new.out.items c.extend_from_slice.new.self.items
    one c.in_ok-extend_from_slice.ensures.items
