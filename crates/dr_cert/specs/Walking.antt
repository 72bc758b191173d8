-- A walk over the lines of a plan, from the entries on.
use Rattle.std.specs.Prelude.{◌≡◌, ◌≢◌, ℕ, ◌+◌, ◌<◌, ◌≤◌, ◌⊎◌, List, take, ◌++◌, length, AllPairs}
use Rattle.std.specs.Prelude.{Contains, Some, slice_get, true, Option, None, ◌↔◌}
use Rattle.dr_base.specs.Texts.{Text}
use Rattle.dr_route.specs.Routes.{local}
use Rattle.dr_route.specs.Laws.{key_of}
use Rattle.dr_route.specs.declared.cell.OwnedCell.{OwnedCell}
use Rattle.dr_plan_model.specs.Networks.{Network}
use Rattle.dr_plan_model.specs.Plans.{IsWellFormed}
use Rattle.dr_plan_model.specs.Walks.{IsReached}
use Rattle.dr_plan_model.specs.Laws.{IsCellOf}
use Rattle.dr_plan_sound.specs.declared.certificate.Stop.{Stop}
use Rattle.dr_plan_sound.specs.declared.certificate.Line.{Line}
use Rattle.dr_plan_sound.specs.Ranked.{line_at, SendsOn}
use Rattle.dr_cert.specs.Conditions.{HasEachLine}
use Rattle.dr_cert.specs.Indexing.{AreSorted, StandsAt, HasNoLine}
use Rattle.dr_cert.specs.Surveying.{EachAt, IsSightOf, IsSurveyOf}
use Rattle.dr_cert.specs.declared.survey.Survey.{Survey}
use Rattle.dr_cert.specs.declared.walker.Missing.{Missing}
use Rattle.dr_cert.specs.declared.walker.Walker.{Walker}

-- the key of the stop's cell that stands for it comes to the stop
abbrev pub IsComeTo : Network → Stop → Type 0
IsComeTo plan stop =
    IsCellOf plan stop.cell × IsReached plan (key_of stop.cell) stop.caller stop.node

-- the stop's line is among those that were reached
abbrev pub IsMarked : List Line → List ℕ → Stop → Type 0
IsMarked lines reached stop = (place : ℕ) × Contains reached place × StandsAt lines stop place

-- The walker marks the places that it has reached, each once, and a walk comes to the stop of each
-- of them.
pub record IsWalking (w : Walker) : Type 0 where
  pub formed : IsWellFormed w.plan.now
  pub local_caller : w.local.now ≡ local
  pub sorted : AreSorted w.lines.now
  pub long : length w.marks.items ≡ length w.lines.now
  pub marked : (place : ℕ)
      → (slice_get w.marks.items place ≡ Some true) ↔ Contains w.reached.items place
  pub apart : AllPairs (λ a b. a ≢ b) w.reached.items
  pub come_to : EachAt w.lines.now w.reached.items (λ line. IsComeTo w.plan.now line.stop)

-- the walker has gone on: with the same plan and lines, and what was reached stays so, in its place
pub record IsFurther (old new : Walker) : Type 0 where
  pub plan : new.plan.now ≡ old.plan.now
  pub lines : new.lines.now ≡ old.lines.now
  pub reached : (more : List ℕ) × (new.reached.items ≡ old.reached.items ++ more)

-- the stop's line stands at the place, which is reached now; or it has none
abbrev pub AfterMark : Walker → Walker → Stop → Option ℕ → Type 0
AfterMark old new stop (Some place) =
    IsWalking new × IsFurther old new
    × Contains new.reached.items place
    × StandsAt old.lines.now stop place
AfterMark old new stop None = HasNoLine old.lines.now stop

-- the stop at which the node's instances come to that node next
abbrev pub next_stop : Stop → Text → Stop
next_stop stop to = record { caller = stop.node; node = to; cell = stop.cell }

-- the rank that lines of the next stops call for: above each of theirs, and just above one, or 0
pub record IsCalledFor (lines : List Line) (stop : Stop) (targets : List Text)
    (rank : ℕ) : Type 0 where
  pub lower : (to : Text) → Contains targets to
      → (s : ℕ) × Contains lines (line_at stop.node to stop.cell s) × (s < rank)
  pub next : (rank ≡ 0)
      ⊎ ((to : Text) × (s : ℕ) × Contains targets to
      × Contains lines (line_at stop.node to stop.cell s)
      × (rank ≡ s + 1))

-- each stop at which the targets have the instances next is marked as reached
abbrev pub AreMarked : List Line → List ℕ → Stop → List Text → Type 0
AreMarked lines reached stop targets =
    (to : Text) → Contains targets to → IsMarked lines reached (next_stop stop to)

-- all of the next stops are marked, and call for this rank; or one of them has no line
abbrev pub AfterTargets : Walker → Walker → Stop → List Text → Option ℕ → Type 0
AfterTargets old new stop targets (Some rank) =
    IsWalking new × IsFurther old new
    × AreMarked old.lines.now new.reached.items stop targets
    × IsCalledFor old.lines.now stop targets rank
AfterTargets old new stop targets None = HasEachLine old.plan.now old.lines.now → ⊥

-- each stop at which the line's node has its instances come next is marked as reached
abbrev pub IsFollowed : Network → List Line → List ℕ → Line → Type 0
IsFollowed plan lines reached line =
    (to : Text) → SendsOn plan line.stop to → IsMarked lines reached (next_stop line.stop to)

-- the line at the place has been followed and surveyed; or a stop to which a walk comes has no line
abbrev pub AfterLook : Walker → Walker → Line → Option Survey → Type 0
AfterLook old new line (Some survey) =
    IsWalking new × IsFurther old new
    × IsFollowed old.plan.now old.lines.now new.reached.items line
    × IsSightOf old.plan.now old.lines.now line survey
AfterLook old new line None = HasEachLine old.plan.now old.lines.now → ⊥

-- all that was reached has been followed and surveyed; or a stop to which a walk comes has no line
abbrev pub AfterWalk : Walker → Walker → Option Survey → Type 0
AfterWalk old new (Some survey) =
    IsWalking new × IsFurther old new
    × EachAt old.lines.now new.reached.items
    (IsFollowed old.plan.now old.lines.now new.reached.items)
    × IsSurveyOf old.plan.now old.lines.now new.reached.items survey
AfterWalk old new None = HasEachLine old.plan.now old.lines.now → ⊥

-- the site has been gone to for the cell
abbrev pub HasVisited : Walker → Text → OwnedCell → Type 0
HasVisited w site cell =
    IsMarked w.lines.now w.reached.items (record { caller = local; node = site; cell = cell })

-- The lines are the walker's, and some stop to which a walk comes has none of them, whatever the
-- entry. A count that no usize has stands for no finding: so the visits say by what they show that
-- the lines stay the same.
abbrev pub ShowsMissing : Walker → Missing → Text → OwnedCell → Type 0
ShowsMissing w missing site cell =
    (missing.lines.now ≡ w.lines.now)
    × (missing.count < 18446744073709551616 → HasEachLine w.plan.now w.lines.now → ⊥)

-- so many of the places that were reached have been followed and surveyed
pub record IsWalkedTo (old new : Walker) (survey : Survey) (count : ℕ) : Type 0 where
  pub walking : IsWalking new
  pub further : IsFurther old new
  pub within : count ≤ length new.reached.items
  pub followed : EachAt old.lines.now (take count new.reached.items)
      (IsFollowed old.plan.now old.lines.now new.reached.items)
  pub surveyed : IsSurveyOf old.plan.now old.lines.now (take count new.reached.items) survey
