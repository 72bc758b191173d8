use Rattle.std.proofs.Common.{◌≡◌, ◌∙◌, ap}
use Rattle.dr_site.specs.Parts.{Part}
use Rattle.dr_site.proofs.Hopping.{has_hop}
use Rattle.dr_site.proofs.Shown.{shown}
use Rattle.dr_site.proofs.site.Site.has_hop.Goals as goal

pub returns : goal.returns
returns c =
    let part = shown c.as_ref.result.now in
    let same : part ≡ c.args.self.now = ap shown c.as_ref.ensures ∙ c.self.view_is in
    has_hop c.args.self.now c.args.dest.now c.as_slice.result.now c.has_hop.result (c.as_slice.ensures ∙ ap (λ (p : Part). p.hops) same) c.has_hop.ensures
