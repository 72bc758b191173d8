-- What is right or wrong about single lines, and about the lines at some places.
use Rattle.std.specs.Prelude.{◌≡◌, ℕ, ◌+◌, ◌<◌, ◌⊎◌, ◌↔◌, List, Contains, Some, slice_get, IsTrue}
use Rattle.dr_base.specs.Texts.{Text}
use Rattle.dr_route.specs.Routes.{local}
use Rattle.dr_route.specs.Laws.{key_of}
use Rattle.dr_plan_model.specs.Networks.{Network}
use Rattle.dr_plan_model.specs.Walks.{Keeps, Accepts}
use Rattle.dr_plan_sound.specs.declared.certificate.Line.{Line}
use Rattle.dr_plan_sound.specs.Ranked.{line_at, SendsOn}
use Rattle.dr_cert.specs.declared.survey.Survey.{Survey}

-- the line's node takes the class and transfer syntax from the caller; nobody asks where instances
-- enter
abbrev pub IsLetIn : Network → Line → Type 0
IsLetIn plan line =
    (line.stop.caller ≡ local)
    ⊎ Accepts plan line.stop.node line.stop.caller line.stop.cell.class line.stop.cell.syntax

-- the line's node keeps the instances of its cell, or sends them on
abbrev pub IsGoingOn : Network → Line → Type 0
IsGoingOn plan line =
    Keeps plan line.stop.node line.stop.caller (key_of line.stop.cell)
    ⊎ ((to : Text) × SendsOn plan line.stop to)

-- the line's rank is right among the others: each node that it is sent to has a lower one, and one
-- of them just the next lower one, unless the rank is 0
pub record IsRankedAmong (plan : Network) (lines : List Line) (line : Line) : Type 0 where
  pub lower : (to : Text)
      → SendsOn plan line.stop to
      → (s : ℕ) × Contains lines (line_at line.stop.node to line.stop.cell s) × (s < line.rank)
  pub next : (line.rank ≡ 0)
      ⊎ ((to : Text) × (s : ℕ)
      × SendsOn plan line.stop to
      × Contains lines (line_at line.stop.node to line.stop.cell s)
      × (line.rank ≡ s + 1))

-- the survey says of the one line what is right
pub record IsSightOf (plan : Network) (lines : List Line) (line : Line)
    (survey : Survey) : Type 0 where
  pub accepted : IsTrue survey.accepted ↔ IsLetIn plan line
  pub goes_on : IsTrue survey.goes_on ↔ IsGoingOn plan line
  pub ranked : IsTrue survey.ranked ↔ IsRankedAmong plan lines line

-- each line at one of these places of the list has the property
abbrev pub EachAt : List Line → List ℕ → (Line → Type 0) → Type 0
EachAt lines places P =
    (place : ℕ) (line : Line) → Contains places place → slice_get lines place ≡ Some line → P line

-- the survey says of the lines at the places what is right
pub record IsSurveyOf (plan : Network) (lines : List Line) (places : List ℕ)
    (survey : Survey) : Type 0 where
  pub accepted : IsTrue survey.accepted ↔ EachAt lines places (IsLetIn plan)
  pub goes_on : IsTrue survey.goes_on ↔ EachAt lines places (IsGoingOn plan)
  pub ranked : IsTrue survey.ranked ↔ EachAt lines places (IsRankedAmong plan lines)
