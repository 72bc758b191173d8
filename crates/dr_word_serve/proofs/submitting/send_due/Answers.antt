use Rattle.std.proofs.Common.{subst}
use Rattle.dr_base.specs.Texts.{Text}
use Rattle.dr_ledger_report.specs.Reports.{IsReportOf}
use Rattle.dr_word_serve.proofs.submitting.send_due.Goals as goal

pub returns : goal.returns
returns g c =
    let P : Text → Type 0 = λ name. IsReportOf name (g.L.Ledger.book c.report_of.new.ledger) c.in_ok-report.report in (
      c.visit_each.new.port,
      c.report_of.new.ledger,
      c.in_ok-visit_each.ensures,
      λ stands. (c.in_ok-report.ensures.stood stands, c.in_ok-report.ensures.same stands, subst P c.name.ensures (c.in_ok-report.ensures.report stands)),
    )
