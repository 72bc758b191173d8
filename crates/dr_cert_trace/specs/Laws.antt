-- Laws of journeys, and one that is worked out.
use Rattle.std.specs.Prelude.{◌≡◌, [], ◌∷◌}
use Rattle.dr_base.specs.Texts.{Text}
use Rattle.dr_base.specs.declared.syntax.Syntax.TheVariants.{Explicit}
use Rattle.dr_route.specs.declared.key.Key.{Key}
use Rattle.dr_plan_model.specs.Networks.{Network}
use Rattle.dr_plan_sound.specs.declared.certificate.Hop.{Hop}
use Rattle.dr_plan_sound.specs.Samples.{scanner, archive, keep_all, two_nodes}
use Rattle.dr_base.specs.Standard.{image}
use Rattle.dr_cert_trace.specs.declared.tracing.Journey.{Journey}
use Rattle.dr_cert_trace.specs.Traces.{IsJourney}

-- a key that enters at a site has one journey
abbrev pub OneJourney : Type 0
OneJourney =
    (plan : Network) (site : Text) (key : Key) (a b : Journey)
    → IsJourney plan site key a
    → IsJourney plan site key b
    → a ≡ b

-- the hop of the plan of two nodes, with its one presentation context
abbrev pub the_hop : Hop
the_hop = record { «from» = scanner; «to» = archive; id = 1; class = image; syntax = Explicit }

-- one hop to the archive, which keeps
abbrev pub to_the_archive : Journey
to_the_archive = record { rank = 1; hops = the_hop ∷ []; keeps = archive ∷ [] }

-- an image of any modality and station
abbrev pub an_image : Text → Text → Key
an_image modality station =
    record { class = image; syntax = Explicit; modality = modality; station = station }

-- the journey of each image that enters at the scanner of the plan of two nodes
abbrev pub TwoNodesJourney : Type 0
TwoNodesJourney =
    (modality station : Text)
    → IsJourney (two_nodes (keep_all ∷ [])) scanner (an_image modality station) to_the_archive
