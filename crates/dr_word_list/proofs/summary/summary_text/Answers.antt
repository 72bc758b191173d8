use Rattle.std.proofs.Common.{◌∙◌, ◌++◌, []}
use Rattle.std.specs.Prelude.{codes}
use Rattle.dr_base.specs.Texts.{Text}
use Rattle.dr_ledger_report.specs.Reports.{name_line}
use Rattle.dr_word_list.specs.Summaries.{count_line}
use Rattle.dr_word_list.proofs.Pieces.{behind}
use Rattle.dr_word_list.proofs.summary.summary_text.Goals as goal

pub returns : goal.returns
returns c =
    let name : Text = name_line c.args.name.now in
    let arrivals : Text = count_line (codes "arrivals") c.args.arrivals in
    let kept : Text = count_line (codes "kept") c.args.kept in
    let queues = c.in_ok-put_queues.ensures in
    let lines : Text = count_line (codes "lines") c.args.lines in
    let named = behind [] name c.new-out.result.items c.put_name.new.out.items c.new-out.ensures.items c.in_ok-put_name.ensures in (
      queues.0,
      queues.1,
      c.from_vec.ensures ∙ behind (name ++ arrivals ++ kept ++ queues.0) lines c.put_queues.new.out.items c.put_count-3.new.out.items
          (behind (name ++ arrivals ++ kept) queues.0 c.put_count-2.new.out.items c.put_queues.new.out.items
          (behind (name ++ arrivals) kept c.put_count.new.out.items c.put_count-2.new.out.items
          (behind name arrivals c.put_name.new.out.items c.put_count.new.out.items
          named c.in_ok-put_count.ensures) c.in_ok-put_count-2.ensures) queues.2) c.in_ok-put_count-3.ensures,
    )
