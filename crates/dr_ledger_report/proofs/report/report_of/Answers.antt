use Rattle.std.proofs.Common.{◌++◌, ◌∙◌, ap}
use Rattle.dr_ledger_report.specs.Reports.{name_line, report_of}
use Rattle.dr_ledger_report.proofs.Reporting.{reported}
use Rattle.dr_ledger_report.proofs.report.report_of.Goals as goal

pub returns-clause-report : goal.returns-clause-report
returns-clause-report g c = λ s4.
    let s3 = c.in_ok-lines.ensures.stood s4 in
    let s2 = c.in_ok-rows.ensures.stood s3 in
    let s1 = c.in_ok-kept.ensures.stood s2 in
    reported c.args.name.now c.in_ok-text.text (g.L.Ledger.book c.args.ledger.now) (g.L.Ledger.book c.arrivals.new.self) (g.L.Ledger.book c.kept.new.self) (g.L.Ledger.book c.rows.new.self) (g.L.Ledger.book c.lines.new.self)
    c.in_ok-arrivals.arrivals c.in_ok-kept.kept c.in_ok-rows.rows c.in_ok-lines.lines
    (c.in_ok-arrivals.ensures.same s1).0 (c.in_ok-kept.ensures.same s2).0 (c.in_ok-rows.ensures.same s3).0 (c.in_ok-lines.ensures.same s4).0
    (c.in_ok-arrivals.ensures.reply s1) (c.in_ok-kept.ensures.reply s2) (c.in_ok-rows.ensures.reply s3) (c.in_ok-lines.ensures.reply s4)
    (c.in_ok-text.ensures ∙ ap (λ n. name_line c.args.name.now ++ report_of c.in_ok-arrivals.arrivals c.in_ok-kept.kept c.in_ok-rows.rows n) c.len-count.ensures)
