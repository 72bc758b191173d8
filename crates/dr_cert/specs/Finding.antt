-- What the walk over all lines finds.
use Rattle.std.specs.Prelude.{◌≡◌, ◌↔◌, List, IsTrue, false, Option, Some, None}
use Rattle.dr_plan_model.specs.Networks.{Network}
use Rattle.dr_plan_model.specs.Plans.{IsWellFormed}
use Rattle.dr_plan_sound.specs.declared.certificate.Line.{Line}
use Rattle.dr_plan_sound.specs.Ranked.{AreRanked}
use Rattle.dr_cert.specs.Conditions.{HasEachLine, AcceptsEachHop, GoesOnEverywhere, ReachesEachLine}
use Rattle.dr_cert.specs.Conditions.{HasRightRanks}
use Rattle.dr_cert.specs.declared.walk.Walked.{Walked}

-- Each stop to which a walk comes has its line; of three conditions it is told whether they hold,
-- and where these and the local test of ranks hold, each line is right among the others. Where that
-- test fails, not all ranks are right.
pub record AreWalked (plan : Network) (lines : List Line) (w : Walked) : Type 0 where
  pub formed : IsWellFormed plan
  pub whole : HasEachLine plan lines
  pub accepted : IsTrue w.survey.accepted ↔ AcceptsEachHop plan
  pub goes_on : IsTrue w.survey.goes_on ↔ GoesOnEverywhere plan
  pub reached : IsTrue w.reached ↔ ReachesEachLine plan lines
  pub ranked : IsTrue w.survey.accepted → IsTrue w.survey.goes_on → IsTrue w.reached
      → IsTrue w.survey.ranked → AreRanked plan lines
  pub wrong : w.survey.ranked ≡ false → HasRightRanks plan lines → ⊥

-- all lines are walked, as a finding says; or some stop to which a walk comes has no line
abbrev pub FindsLines : Network → List Line → Option Walked → Type 0
FindsLines plan lines (Some w) = AreWalked plan lines w
FindsLines plan lines None = HasEachLine plan lines → ⊥
