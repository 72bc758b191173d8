use Rattle.std.proofs.Common.{◌++◌}
use Rattle.std.specs.Prelude.{codes, option_copied}
use Rattle.dr_run_page.specs.Documents.{hop_buttons, queue_cells}
use Rattle.dr_run_answer.proofs.Chained.{chained}
use Rattle.dr_run_page.proofs.written.put_queue.Goals as goal

pub returns : goal.returns
returns c =
    let old = c.args.out.now.items in
    let cells = queue_cells c.args.now c.args.queue.now in
    let forms = hop_buttons (option_copied c.args.key) c.args.queue.now.dest.now in
    let one = chained old cells forms c.put_queue_cells.new.out.items c.put_hop_buttons.new.out.items
    c.in_ok-put_queue_cells.ensures c.in_ok-put_hop_buttons.ensures in
    chained old (cells ++ forms) (codes "</td></tr>\n") c.put_hop_buttons.new.out.items
    c.extend_from_slice.new.self.items one c.in_ok-extend_from_slice.ensures.items
