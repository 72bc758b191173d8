-- The whole walk: from a walker's visits and steps to what it has found.
use Rattle.std.proofs.Common.{◌≡◌, ℕ, ◌<◌, refl, sym, ◌∙◌, subst, List, [], length, Contains, Some, arith}
use Rattle.std.specs.Prelude.{◌↔◌, IsTrue}
use Rattle.std.proofs.lemmas.Bool.{false≢true}
use Rattle.dr_base.specs.Texts.{Text}
use Rattle.dr_base.specs.declared.syntax.Syntax.TheVariants.{Implicit}
use Rattle.dr_route.specs.declared.cell.OwnedCell.{OwnedCell}
use Rattle.dr_route.specs.declared.cell.OwnedField.TheVariants.{Rest}
use Rattle.dr_plan_model.specs.Networks.{Network}
use Rattle.dr_plan_model.specs.Plans.{IsWellFormed}
use Rattle.dr_plan_sound.specs.declared.certificate.Line.{Line}
use Rattle.dr_plan_entries.specs.Visiting.{VisitorGoesOn, IsEntryCell}
use Rattle.dr_cert.specs.Conditions.{HasEachLine}
use Rattle.dr_cert.specs.Indexing.{AreSorted}
use Rattle.dr_cert.specs.Surveying.{EachAt, IsSurveyOf}
use Rattle.dr_cert.specs.Walking.{IsWalking, IsComeTo, IsMarked, HasVisited, ShowsMissing, AfterWalk}
use Rattle.dr_cert.specs.Finding.{AreWalked}
use Rattle.dr_cert.specs.declared.survey.Survey.{Survey}
use Rattle.dr_cert.specs.declared.walk.Walked.{Walked}
use Rattle.dr_cert.specs.declared.walker.Walker.{Walker}
use Rattle.dr_cert.proofs.Following.{marked_still}
use Rattle.dr_cert.proofs.Visiting.{entry_stop}
use Rattle.dr_cert.proofs.Findings.{has_each, reaches_from, reaches_to, accepts_from, accepts_to, goes_on_from, goes_on_to, ranked_from, are_ranked}
use Rattle.dr_route.specs.Routes.{local}

-- the visits of all entries of the walker's plan
abbrev pub Visits : Walker → Walker → Type 0
Visits start mid = VisitorGoesOn (λ (w : Walker). w.plan.now) IsWalking HasVisited ShowsMissing (IsEntryCell start.plan.now) start mid

-- some cell, for what holds whatever the cell
any : OwnedCell
any = record { class = []; syntax = Implicit; modality = Rest; station = Rest }

pub same_lines : (start mid : Walker) → Visits start mid → mid.lines.now ≡ start.lines.now
same_lines start mid went = (went.shown (record { lines = mid.lines; count = 18446744073709551616 }) [] any (refl, λ real. absurd (omega arith))).0

pub found : (start mid end : Walker) → Visits start mid → (survey : Survey) → AfterWalk mid end (Some survey) → (w : Walked) → w.survey ≡ survey →
    (IsTrue w.reached ↔ ((place : ℕ) → place < length end.lines.now → Contains end.reached.items place)) → AreWalked mid.plan.now mid.lines.now w
found start mid end went survey walked w same all =
    let plan : Network = mid.plan.now in
    let lines : List Line = mid.lines.now in
    let reached : List ℕ = end.reached.items in
    let walking : IsWalking mid = went.is_ready in
    let formed : IsWellFormed plan = walking.formed in
    let sorted : AreSorted lines = walking.sorted in
    let C : List Line → Type 0 = λ ls. EachAt ls reached (λ line. IsComeTo end.plan.now line.stop) in
    let D : Network → Type 0 = λ p. EachAt lines reached (λ line. IsComeTo p line.stop) in
    let come : D plan = subst D walked.1.plan (subst C walked.1.lines walked.0.come_to) in
    let E : Network → Type 0 = λ p. (site : Text) (cell : OwnedCell) → IsEntryCell p site cell → HasVisited mid site cell in
    let visits : E plan = subst E (sym went.same_plan) went.wanted in
    let entered : (site : Text) (cell : OwnedCell) → IsEntryCell plan site cell → IsMarked lines reached (entry_stop local site cell) =
    λ site cell entry. marked_still lines mid end (entry_stop local site cell) walked.1 (visits site cell entry) in
    let followed = walked.2 in
    let A : List Line → Type 0 = λ ls. IsTrue w.reached ↔ ((place : ℕ) → place < length ls → Contains reached place) in
    let whole : A lines = subst A walked.1.lines all in
    let S : Survey → Type 0 = λ s. IsSurveyOf plan lines reached s in
    let seen : IsSurveyOf plan lines reached w.survey = subst S (sym same) walked.3 in
    record {
      formed = formed;
      whole = has_each plan formed lines sorted reached come entered followed;
      accepted = (
        (λ h. accepts_from plan formed lines sorted reached come entered followed (seen.accepted.0 h)),
        (λ h. seen.accepted.1 (accepts_to plan formed lines sorted reached come entered followed h)),
      );
      goes_on = (
        (λ h. goes_on_from plan formed lines sorted reached come entered followed (seen.goes_on.0 h)),
        (λ h. seen.goes_on.1 (goes_on_to plan formed lines sorted reached come entered followed h)),
      );
      reached = (
        (λ h. reaches_from plan formed lines sorted reached come entered followed (whole.0 h)),
        (λ h. whole.1 (reaches_to plan formed lines sorted reached come entered followed h)),
      );
      ranked = λ accepted goes_on to_all ranked.
          are_ranked plan formed lines sorted reached come entered followed (whole.0 to_all)
          (accepts_from plan formed lines sorted reached come entered followed (seen.accepted.0 accepted))
          (goes_on_from plan formed lines sorted reached come entered followed (seen.goes_on.0 goes_on)) (seen.ranked.0 ranked);
      wrong = λ off right. false≢true (sym off ∙ seen.ranked.1 (ranked_from plan formed lines sorted reached come entered followed right));
    }

pub found_at : (mid : Walker) (plan : Network) (lines : List Line) (w : Walked) → mid.plan.now ≡ plan → mid.lines.now ≡ lines → AreWalked mid.plan.now mid.lines.now w → AreWalked plan lines w
found_at mid plan lines w same_plan same_rows found =
    let P : Network → Type 0 = λ p. AreWalked p mid.lines.now w in
    let Q : List Line → Type 0 = λ ls. AreWalked plan ls w in
    subst Q same_rows (subst P same_plan found)

pub missing_at : (mid : Walker) (plan : Network) (lines : List Line) → mid.plan.now ≡ plan → mid.lines.now ≡ lines → (HasEachLine mid.plan.now mid.lines.now → ⊥) → HasEachLine plan lines → ⊥
missing_at mid plan lines same_plan same_rows missing each =
    let P : Network → Type 0 = λ p. HasEachLine p mid.lines.now in
    let Q : List Line → Type 0 = λ ls. HasEachLine plan ls in
    missing (subst P (sym same_plan) (subst Q (sym same_rows) each))
