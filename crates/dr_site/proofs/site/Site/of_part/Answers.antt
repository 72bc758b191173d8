use Rattle.std.proofs.Common.{Result}
use Rattle.dr_site.specs.Parts.{Part}
use Rattle.dr_site.specs.Sites.{IsSiteOf}
use Rattle.dr_site.specs.declared.site.SiteFault.{SiteFault}
use Rattle.dr_site.proofs.Strangers.{told_as_memory}
use Rattle.dr_site.proofs.site.Site.of_part.Goals as goal

-- the plan has the node
pub returns-in_err-site : goal.returns-in_err-site
returns-in_err-site c =
    let P : Result Part SiteFault → Type 0 = λ r. IsSiteOf c.args.plan.now c.args.certificate.now c.args.name.now r in
    told_as_memory P _ c.from_residual.ensures.0 c.from_residual.ensures.1 (λ none. none c.in-Some.node.now c.in-Some.ensures.0)
