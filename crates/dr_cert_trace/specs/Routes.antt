-- What is printed of a key that enters at a site.
use Rattle.std.specs.Prelude.{◌≡◌, Option, Some, None}
use Rattle.dr_base.specs.Texts.{Text}
use Rattle.dr_route.specs.declared.cell.OwnedCell.{OwnedCell}
use Rattle.dr_route.specs.declared.key.Key.{Key}
use Rattle.dr_plan_model.specs.Networks.{Network}
use Rattle.dr_plan_model.specs.Plans.{LiesIn}
use Rattle.dr_plan_model.specs.Walks.{IsEntry}
use Rattle.dr_cert_trace.specs.declared.tracing.Journey.{Journey}
use Rattle.dr_cert_trace.specs.Traces.{IsJourney}
use Rattle.dr_cert_trace.specs.Rows.{journey_text}

-- the text is that of the key's journey from the site, under the plan's cell of the key
pub record IsJourneyText (plan : Network) (site : Text) (key : Key) (text : Text) : Type 0 where
  pub cell : OwnedCell
  pub lies : LiesIn plan cell key
  pub journey : Journey
  pub is : IsJourney plan site key journey
  pub printed : text ≡ journey_text cell journey

-- the text of the key's journey from the site; none where no flow there fits it
abbrev pub IsRoute : Network → Text → Key → Option Text → Type 0
IsRoute plan site key (Some text) = IsJourneyText plan site key text
IsRoute plan site key None = IsEntry plan site key → ⊥
