use Rattle.std.proofs.Common.{sym, subst}
use Rattle.dr_ledger.specs.Histories.{IsJournalled}
use Rattle.dr_ledger.specs.SiteRoutes.{site_routing}
use Rattle.dr_run_serve.proofs.serving.Deployment.serve_timed.Goals as goal

pub returns-in-Ok-clause-history : goal.returns-in-Ok-clause-history
returns-in-Ok-clause-history g c =
    let P : g.row.L.Denot → Type 0 = λ l. g.L.Ledger.stands l
    → ∥ IsJournalled (site_routing c.args.site) (g.L.Ledger.book l) ∥₁ in
    subst P (sym c.into_ledger.ensures) c.in-Ok.ensures.history
