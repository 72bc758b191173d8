use Rattle.dr_word_rehearse.specs.Endings.{row_line}
use Rattle.dr_word_rehearse.proofs.Printed.{more_lines}
use Rattle.dr_word_rehearse.proofs.telling.put_rows.Goals as goal

pub loop-row-preserved : goal.loop-row-preserved
loop-row-preserved c = more_lines (row_line c.args.node.now) c.args.rows.now c.loop-row.row-index c.row-item.result c.loop-row-test.true c.row-item.is c.args.out.now.items c.loop-row.out.items c.put_row.new.out.items c.loop-row.invariant c.in_ok-put_row.ensures
