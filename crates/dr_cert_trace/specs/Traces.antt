-- Where an instance goes that enters at a site: over which hops, and where it is kept.
use Rattle.std.specs.Prelude.{◌≡◌, ◌↔◌, List, AllPairs, Contains, Option, Some, None}
use Rattle.std.specs.declared.cmp.Ordering.TheVariants.{Less}
use Rattle.dr_base.specs.Texts.{Text, text_cmp, IsInByteOrder}
use Rattle.dr_route.specs.Routes.{local}
use Rattle.dr_route.specs.declared.key.Key.{Key}
use Rattle.dr_plan_model.specs.Networks.{Network}
use Rattle.dr_plan_model.specs.Walks.{Sends, IsEntry, IsWalk, IsDestination, last_place}
use Rattle.dr_plan_sound.specs.declared.certificate.Hop.{Hop}
use Rattle.dr_plan_sound.specs.Certificates.{HasHop}
use Rattle.dr_plan_sound.specs.Printed.{printed_hop}
use Rattle.dr_plan_sound.specs.Soundness.{IsRank}
use Rattle.dr_cert_trace.specs.declared.tracing.Journey.{Journey}

-- a walk of the key from the site, where it enters, ends with the pair (caller, name)
abbrev pub ComesTo : Network → Text → Key → Text × Text → Type 0
ComesTo plan site key place =
    (over : List Text) × IsWalk plan key local site over × (last_place local site over ≡ place)

-- on such a walk the key goes from the one node to the other
abbrev pub GoesOnTo : Network → Text → Key → Text → Text → Type 0
GoesOnTo plan site key from to =
    (caller : Text) × ComesTo plan site key (caller, from) × Sends plan from caller key to

-- the hop is one on which the key goes from there, and this is its context in the certificate
abbrev pub IsHopOf : Network → Text → Key → Hop → Type 0
IsHopOf plan site key hop =
    HasHop plan hop × (hop.class ≡ key.class)
    × (hop.syntax ≡ key.syntax)
    × GoesOnTo plan site key hop.from hop.to

-- Of a key that enters at the site: how many hops it makes at most, exactly the hops of its walks
-- in the byte order of their printed lines, and exactly the nodes that keep it, in byte order.
pub record IsJourney (plan : Network) (site : Text) (key : Key) (journey : Journey) : Type 0 where
  pub enters : IsEntry plan site key
  pub rank : IsRank plan key local site journey.rank
  pub hops : (hop : Hop) → Contains journey.hops hop ↔ IsHopOf plan site key hop
  pub hops_ordered : AllPairs (λ a b. text_cmp (printed_hop a) (printed_hop b) ≡ Less) journey.hops
  pub keeps : (dest : Text) → Contains journey.keeps dest ↔ IsDestination plan local site key dest
  pub keeps_ordered : IsInByteOrder journey.keeps

-- where the key goes that enters at the site; none where no flow there fits it
abbrev pub IsTraced : Network → Text → Key → Option Journey → Type 0
IsTraced plan site key (Some journey) = IsJourney plan site key journey
IsTraced plan site key None = IsEntry plan site key → ⊥
