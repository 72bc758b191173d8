use Rattle.std.proofs.Common.{◌∙◌, sym, subst}
use Rattle.dr_base.specs.Texts.{Text}
use Rattle.dr_desk.specs.Growing.{BeginWith}
use Rattle.dr_ledger.specs.Books.{Book}
use Rattle.dr_ledger.specs.Histories.{IsJournalled}
use Rattle.dr_ledger.specs.SiteRoutes.{site_routing}
use Rattle.dr_ledger_report.specs.Reports.{IsReportOf}
use Rattle.dr_word_serve.proofs.running.serve_ledger.Goals as goal

pub returns-in-Ok-report_of : goal.returns-in-Ok-report_of
returns-in-Ok-report_of g c = λ stands.
    let stood = c.in-Ok-report_of.ensures.stood stands in
    let same = sym (c.in-Ok-report_of.ensures.same stands) in
    let P : Text → Type 0 = λ name. IsReportOf name (g.L.Ledger.book c.report_of.new.ledger) c.in-Ok-report_of.report in (
      subst (λ (b : Book). BeginWith (g.L.Ledger.book c.args.ledger).lines b.lines) same (c.in-Ok-served.ensures.begins stood),
      subst (λ (b : Book). ∥ IsJournalled (site_routing c.args.site) b ∥₁) same (c.in-Ok-served.ensures.history stood),
      subst P (c.in-Ok.ensures ∙ c.name.ensures) (c.in-Ok-report_of.ensures.report stands),
    )
