-- What a site says of the contexts of its node's hops, and of what its node accepts.
use Rattle.std.specs.Prelude.{◌≡◌, ◌↔◌, Contains}
use Rattle.dr_base.specs.Texts.{Text}
use Rattle.dr_base.specs.declared.syntax.Syntax.{Syntax}
use Rattle.dr_route.specs.Routes.{AcceptsBy}
use Rattle.dr_plan_model.specs.Networks.{Network}
use Rattle.dr_plan_model.specs.Walks.{Accepts, GoesOver}
use Rattle.dr_plan_sound.specs.declared.certificate.Hop.{Hop}
use Rattle.dr_plan_sound.specs.declared.certificate.Certificate.{Certificate}
use Rattle.dr_site.specs.Parts.{Part, IsPartOf, hops_to}
use Rattle.dr_site.specs.Sites.{IsCertified}

-- the site has a context for the pair on its hop to that node
abbrev pub HasContextTo : Part → Text → Text → Syntax → Type 0
HasContextTo part dest class syntax =
    (hop : Hop) × Contains (hops_to part dest) hop × (hop.class ≡ class) × (hop.syntax ≡ syntax)

-- the pairs of a site's hops to a node are just those that go over that hop of the plan
abbrev pub PairsAreAsPlanned : Type 0
PairsAreAsPlanned =
    (plan : Network) (certificate : Certificate) (part : Part)
    → IsCertified plan certificate
    → IsPartOf plan certificate part
    → (dest class : Text) (syntax : Syntax)
    → HasContextTo part dest class syntax ↔ GoesOver plan part.name dest (class, syntax)

-- a site's accept rows take just what its node accepts
abbrev pub AcceptsAsPlanned : Type 0
AcceptsAsPlanned =
    (plan : Network) (certificate : Certificate) (part : Part)
    → IsPartOf plan certificate part
    → (caller class : Text) (syntax : Syntax)
    → AcceptsBy part.accepts caller class syntax ↔ Accepts plan part.name caller class syntax
