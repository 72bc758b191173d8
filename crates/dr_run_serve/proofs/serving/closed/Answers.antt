use Rattle.std.proofs.Common.{◌≡◌, sym, subst}
use Rattle.dr_desk.specs.Growing.{BeginWith}
use Rattle.dr_ledger.specs.Histories.{IsJournalled}
use Rattle.dr_ledger.specs.SiteRoutes.{site_routing}
use Rattle.dr_run_serve.proofs.serving.closed.Goals as goal

pub returns-in-Ok-clause-begins : goal.returns-in-Ok-clause-begins
returns-in-Ok-clause-begins g c =
    let P : g.row.L.Denot → Type 0 =
    λ l. g.L.Ledger.stands l → BeginWith g.B.Sharing.first (g.L.Ledger.book l).lines in
    subst P (sym c.into_ledger.ensures) c.in-Ok.ensures.ends.begins

pub returns-in-Ok-clause-history : goal.returns-in-Ok-clause-history
returns-in-Ok-clause-history g c =
    let P : g.row.L.Denot → Type 0 = λ l.
    g.L.Ledger.stands l
    → ∥ IsJournalled (site_routing g.B.Sharing.site) (g.L.Ledger.book l) ∥₁ in
    subst P (sym c.into_ledger.ensures) c.in-Ok.ensures.ends.history

pub returns-in-Ok-clause-of : goal.returns-in-Ok-clause-of
returns-in-Ok-clause-of g c =
    let P : g.row.L.Denot → Type 0 = λ l. g.L.Ledger.site l ≡ g.B.Sharing.site in
    subst P (sym c.into_ledger.ensures) c.in-Ok.ensures.ends.of
