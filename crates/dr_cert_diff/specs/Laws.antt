-- Laws of changes.
use Rattle.std.specs.Prelude.{◌≡◌, List, [], Contains}
use Rattle.dr_base.specs.Texts.{Text}
use Rattle.dr_route.specs.declared.key.Key.{Key}
use Rattle.dr_plan_model.specs.Networks.{Network}
use Rattle.dr_cert_diff.specs.declared.change.RouteChange.{RouteChange}
use Rattle.dr_cert_diff.specs.Differing.{IsDiff, LiesInBoth}

-- from a plan to itself nothing changes, and no change is told
abbrev pub SamePlanHasNoChange : Type 0
SamePlanHasNoChange =
    (plan : Network) → IsDiff plan plan []
    × ((changes : List RouteChange) → IsDiff plan plan changes → changes ≡ [])

-- a node that some change loses for a key is one that some change of the way back gains for it
abbrev pub WhatIsLostIsGainedBack : Type 0
WhatIsLostIsGainedBack =
    (old new : Network) (there back : List RouteChange)
    → IsDiff old new there → IsDiff new old back
    → (change : RouteChange) (key : Key) (dest : Text)
    → Contains there change → LiesInBoth old new change.cell key → Contains change.lost dest
    → (other : RouteChange)
    × Contains back other
    × (other.site ≡ change.site)
    × LiesInBoth new old other.cell key
    × Contains other.gained dest
