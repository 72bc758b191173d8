use Rattle.std.proofs.Common.{ap, subst, sym}
use Rattle.dr_site.specs.declared.site.SiteParts.{SiteParts}
use Rattle.dr_site.specs.Sites.{IsSite}
use Rattle.dr_site.proofs.Shown.{shown}
use Rattle.dr_site.proofs.site.Site.of_parts.Goals as goal

pub invariant_of-result : goal.invariant_of-result
invariant_of-result c = let I : SiteParts → Type 0 = λ p. IsSite (shown p) in subst I (sym c.in_ok-parts.ensures) c.requires

pub returns : goal.returns
returns c = ap shown c.in_ok-parts.ensures
