-- A walker goes from line to line.
use Rattle.std.proofs.Common.{◌≡◌, ℕ, ◌+◌, ◌<◌, ◌≤◌, inl, inr, refl, sym, ◌∙◌, ap, subst, List, [], ◌∷◌, ◌++◌, length, get_or, take, Contains, Some, true, false, arith, length-append}
use Rattle.std.specs.Prelude.{slice_get, ◌↔◌, ◌&&◌, IsTrue, Bool}
use Rattle.std.proofs.lemmas.Bool.{false≢true}
use Rattle.std.proofs.lemmas.Bool.Decides.{Decides-eqb}
use Rattle.std.proofs.lemmas.List.{take_more, take_all, take-append-le}
use Rattle.std.proofs.lemmas.List.Elements.{Contains-push, Contains-push_cases, Contains-append_left}
use Rattle.std.proofs.lemmas.Option.{same_Some, slice_get_within}
use Rattle.std.proofs.lemmas.Map.Made.{IsDistinct-from_AllPairs}
use Rattle.std.proofs.lemmas.Map.Steps.{length-le_from_distinct_below}
use Rattle.std.proofs.lemmas.Map.Views.{Contains-from_any, exact_unsigned_eq}
use Rattle.dr_plan_model.specs.Networks.{Network}
use Rattle.dr_plan_model.proofs.Gathered.{nothing_in_nil}
use Rattle.dr_plan_sound.specs.declared.certificate.Line.{Line}
use Rattle.dr_cert.specs.Conditions.{HasEachLine}
use Rattle.dr_cert.specs.Surveying.{EachAt, IsLetIn, IsGoingOn, IsRankedAmong, IsSightOf}
use Rattle.dr_cert.specs.Walking.{IsWalking, IsFurther, IsFollowed, AfterLook, IsWalkedTo, next_stop}
use Rattle.dr_cert.specs.declared.survey.Survey.{Survey}
use Rattle.dr_cert.specs.declared.walker.Walker.{Walker}
use Rattle.dr_cert.proofs.Marks.{unchanged}
use Rattle.dr_cert.proofs.Following.{further_on, marked_still}

-- ---- no more places are reached than there are lines
pub place_below : (w : Walker) → IsWalking w → (place : ℕ) → Contains w.reached.items place → place < length w.lines.now
place_below w walking place among =
    let n = walking.long in
    let h = slice_get_within w.marks.items place true ((walking.marked place).1 among) in
    omega (arith, n, h)

pub few_reached : (w : Walker) → IsWalking w → length w.reached.items ≤ length w.lines.now
few_reached w walking =
    length-le_from_distinct_below w.reached.items (length w.lines.now)
    (IsDistinct-from_AllPairs Decides-eqb w.reached.items walking.apart)
    (λ q h. place_below w walking q (Contains-from_any exact_unsigned_eq q w.reached.items h))

-- ---- one more place
each_none : (lines : List Line) (P : Line → Type 0) → EachAt lines [] P
each_none lines P place line among here = absurd (nothing_in_nil place among)

each_more : (lines : List Line) (done : List ℕ) (place : ℕ) (line : Line) (P : Line → Type 0) → slice_get lines place ≡ Some line → EachAt lines done P → P line → EachAt lines (done ++ place ∷ []) P
each_more lines done place line P here so_far holds p l among at = elim (Contains-push_cases done place p among) [
  | inl before ↦ so_far p l before at
  | inr same ↦
      let Q : ℕ → Type 0 = λ q. slice_get lines q ≡ Some l in
      let one : line ≡ l = same_Some line l (sym here ∙ subst Q (sym same) at) in
      subst P one holds
]

and_both : (a b : Bool) → IsTrue (a && b) → IsTrue a × IsTrue b
and_both true b h = (refl, h)
and_both false b h = absurd (false≢true h)

both_and : (a b : Bool) → IsTrue a → IsTrue b → IsTrue (a && b)
both_and true b h k = k
both_and false b h k = absurd (false≢true h)

survey_more : (lines : List Line) (done : List ℕ) (place : ℕ) (line : Line) (P : Line → Type 0) (a b : Bool) → slice_get lines place ≡ Some line → (IsTrue a ↔ EachAt lines done P) → (IsTrue b ↔ P line) →
    IsTrue (a && b) ↔ EachAt lines (done ++ place ∷ []) P
survey_more lines done place line P a b here so_far now = (
  (λ h. let both = and_both a b h in each_more lines done place line P here (so_far.0 both.0) (now.0 both.1)),
  (λ each. both_and a b
      (so_far.1 (λ p l among at. each p l (Contains-append_left done (place ∷ []) p among) at))
      (now.1 (each place line (Contains-push done place) here))),
)

pub walk_begins : (w : Walker) (survey : Survey) → IsWalking w → survey ≡ record { accepted = true; goes_on = true; ranked = true } → IsWalkedTo w w survey 0
walk_begins w survey walking is =
    let none : (P : Line → Type 0) → IsTrue true ↔ EachAt w.lines.now [] P = λ P. (λ h. each_none w.lines.now P, λ h. refl) in
    let S : Survey → Type 0 = λ s. IsWalkedTo w w s 0 in
    subst S (sym is) (record {
      walking = walking;
      further = unchanged w;
      within = omega arith;
      followed = each_none w.lines.now (IsFollowed w.plan.now w.lines.now w.reached.items);
      surveyed = record { accepted = none (IsLetIn w.plan.now); goes_on = none (IsGoingOn w.plan.now); ranked = none (IsRankedAmong w.plan.now w.lines.now) };
    })

pub walk_goes_on : (old w new : Walker) (survey seen all : Survey) (count place : ℕ) (line : Line) → IsWalkedTo old w survey count → count < length w.reached.items → place ≡ get_or w.reached.items count place →
    slice_get w.lines.now place ≡ Some line → AfterLook w new line (Some seen) →
    all ≡ record { accepted = survey.accepted && seen.accepted; goes_on = survey.goes_on && seen.goes_on; ranked = survey.ranked && seen.ranked } → IsWalkedTo old new all (count + 1)
walk_goes_on old w new survey seen all count place line so_far h at there looked is =
    let plan : Network = old.plan.now in
    let lines : List Line = old.lines.now in
    let done : List ℕ = take count w.reached.items in
    let grown : new.reached.items ≡ w.reached.items ++ looked.1.reached.0 = looked.1.reached.1 in
    let long : length w.reached.items ≤ length new.reached.items = further_is_longer w new looked.1 in
    let more : take (count + 1) new.reached.items ≡ done ++ place ∷ [] =
    ap (λ (rs : List ℕ). take (count + 1) rs) grown ∙ (take-append-le (count + 1) w.reached.items looked.1.reached.0 (omega arith) ∙ pushed w.reached.items count place h at) in
    let A : List Line → Type 0 = λ ls. slice_get ls place ≡ Some line in
    let here : slice_get lines place ≡ Some line = subst A so_far.further.lines there in
    let F : Network → Type 0 = λ p. IsFollowed p w.lines.now new.reached.items line in
    let E : List Line → Type 0 = λ ls. IsFollowed plan ls new.reached.items line in
    let followed : IsFollowed plan lines new.reached.items line = subst E so_far.further.lines (subst F so_far.further.plan looked.2) in
    let I : Network → Type 0 = λ p. IsSightOf p w.lines.now line seen in
    let J : List Line → Type 0 = λ ls. IsSightOf plan ls line seen in
    let sight : IsSightOf plan lines line seen = subst J so_far.further.lines (subst I so_far.further.plan looked.3) in
    let S : Survey → Type 0 = λ s. IsWalkedTo old new s (count + 1) in
    let P : List ℕ → Type 0 = λ rs. EachAt lines rs (IsFollowed plan lines new.reached.items) in
    let before : P done = λ p l among at to sent. marked_still lines w new (next_stop l.stop to) looked.1 (so_far.followed p l among at to sent) in
    subst S (sym is) (record {
      walking = looked.0;
      further = further_on old w new so_far.further looked.1;
      within = omega arith;
      followed = subst P (sym more) (each_more lines done place line (IsFollowed plan lines new.reached.items) here before followed);
      surveyed = record {
        accepted = (let Q : List ℕ → Type 0 = λ rs. IsTrue (survey.accepted && seen.accepted) ↔ EachAt lines rs (IsLetIn plan) in
            subst Q (sym more) (survey_more lines done place line (IsLetIn plan) survey.accepted seen.accepted here so_far.surveyed.accepted sight.accepted));
        goes_on = (let Q : List ℕ → Type 0 = λ rs. IsTrue (survey.goes_on && seen.goes_on) ↔ EachAt lines rs (IsGoingOn plan) in
            subst Q (sym more) (survey_more lines done place line (IsGoingOn plan) survey.goes_on seen.goes_on here so_far.surveyed.goes_on sight.goes_on));
        ranked = (let Q : List ℕ → Type 0 = λ rs. IsTrue (survey.ranked && seen.ranked) ↔ EachAt lines rs (IsRankedAmong plan lines) in
            subst Q (sym more) (survey_more lines done place line (IsRankedAmong plan lines) survey.ranked seen.ranked here so_far.surveyed.ranked sight.ranked));
      };
    })
  where
    pushed : (rs : List ℕ) (count place : ℕ) → count < length rs → place ≡ get_or rs count place → take (count + 1) rs ≡ take count rs ++ place ∷ []
    pushed rs count place h at = let e = take_more rs count place h in rw (← at) at e

    further_is_longer : (a b : Walker) → IsFurther a b → length a.reached.items ≤ length b.reached.items
    further_is_longer a b f = let e = ap (λ (rs : List ℕ). length rs) f.reached.1 in let l = length-append a.reached.items f.reached.0 in omega (arith, e, l)

pub missing_before : (old w : Walker) → IsFurther old w → (HasEachLine w.plan.now w.lines.now → ⊥) → HasEachLine old.plan.now old.lines.now → ⊥
missing_before old w further missing each =
    let P : Network → Type 0 = λ p. HasEachLine p w.lines.now in
    let Q : List Line → Type 0 = λ ls. HasEachLine old.plan.now ls in
    missing (subst P (sym further.plan) (subst Q (sym further.lines) each))

-- all of them
pub walk_ends : (rs : List ℕ) (count : ℕ) → count ≤ length rs → length rs ≤ count → take count rs ≡ rs
walk_ends rs count low high = take_all count rs (omega arith)
