use Rattle.std.proofs.Common.{◌≡◌, ◌≤◌, ◌++◌, length, arith}
use Rattle.dr_run_answer.specs.Journals.{lines_text}
use Rattle.dr_run_answer.proofs.Journaled.{all_told, one_told}
use Rattle.dr_run_answer.proofs.journal.put_lines.Goals as goal

pub loop-line-preserved : goal.loop-line-preserved
loop-line-preserved c =
    let lines = c.args.lines.now in
    one_told lines c.loop-line.line-index c.loop-line.number c.saturating_add-number.result _ c.line-item.result c.loop-line.out.items c.put_line.new.out.items (c.args.out.now.items ++ lines_text c.args.after lines) c.loop-line-test.true c.line-item.is c.saturating_add-number.ensures
    c.in_ok-put_line.ensures c.loop-line.invariant

pub returns : goal.returns
returns c =
    let lines = c.args.lines.now in
    let over : length lines ≤ c.loop-line.line-index = omega (arith, c.loop-line-test.false) in
    all_told lines c.loop-line.line-index c.loop-line.number c.loop-line.out.items (c.args.out.now.items ++ lines_text c.args.after lines) over c.loop-line.invariant
