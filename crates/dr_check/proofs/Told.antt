-- The faults that are told together, and one more.
use Rattle.std.proofs.Common.{◌≡◌, inl, inr, refl, sym, ap, subst, List, [], ◌∷◌, ◌++◌, Contains}
use Rattle.std.proofs.Common.{Err}
use Rattle.std.specs.Prelude.{length, ◌≢◌, ◌==◌, true, false}
use Rattle.std.proofs.lemmas.List.Elements.{Contains-push, Contains-push_cases}
use Rattle.std.proofs.lemmas.List.Elements.{Contains-append_left}
use Rattle.dr_base.specs.Texts.{Text}
use Rattle.dr_route.specs.declared.cell.OwnedCell.{OwnedCell}
use Rattle.dr_plan_model.specs.Networks.{Network}
use Rattle.dr_plan_model.proofs.Gathered.{only_one, nothing_in_nil}
use Rattle.dr_plan_sound.specs.Soundness.{IsSound}
use Rattle.dr_check.specs.declared.fault.Fault.{Fault}
use Rattle.dr_check.specs.declared.verdict.CheckFault.{CheckFault}
use Rattle.dr_check.specs.declared.verdict.CheckFault.TheVariants.{TooLarge, Memory}
use Rattle.dr_check.specs.declared.verdict.Verdict.TheVariants.{No}
use Rattle.dr_check.specs.Answering.{AnswersCheck, Judges}
use Rattle.dr_check.specs.Firsts.{IsNamedFirst, IsFirstOfPlan, IsOnWalk}
use Rattle.dr_check.specs.Shown.{IsShown}
use Rattle.dr_check.specs.AllFaults.{IsToldAtEntry, IsCovered, AreCovered, AreAllFaults}
use Rattle.dr_check.specs.AllFaults.{AnswersAll}

module _ (plan : Network) (faults more : List Fault) (fault : Fault)
    (grown : more ≡ faults ++ fault ∷ []) where
  among : (f : Fault) → Contains (faults ++ fault ∷ []) f → Contains more f
  among f has = let P : List Fault → Type 0 = λ fs. Contains fs f in subst P (sym grown) has

  -- each of them is told at its entry, where this one is
  pub told_more : ((f : Fault) → Contains faults f → IsToldAtEntry plan f)
      → IsToldAtEntry plan fault → (f : Fault) → Contains more f → IsToldAtEntry plan f
  told_more told this f has =
      let P : List Fault → Type 0 = λ fs. Contains fs f in
      let T : Fault → Type 0 = λ g. IsToldAtEntry plan g in
      elim (Contains-push_cases faults fault f (subst P grown has)) [
        | inl before ↦ told f before
        | inr same ↦ subst T same this
      ]

  -- what was covered still is
  pub covered_more : (site : Text) (cell : OwnedCell)
      → IsCovered plan faults site cell
      → IsCovered plan more site cell
  covered_more site cell covered = elim covered [
    | inl harmless ↦ inl harmless
    | inr at ↦ inr (at.0, among at.0 (Contains-append_left faults (fault ∷ []) at.0 at.1), at.2)
  ]

  -- and so is the entry of this one
  pub covers_this : (site : Text) (cell : OwnedCell)
      → IsOnWalk site cell fault
      → IsCovered plan more site cell
  covers_this site cell on = inr (fault, among fault (Contains-push faults fault), on)

-- ---- faults that are told where nothing is left
pub all_gathered : (plan : Network) (faults : List Fault)
    → ((f : Fault) → Contains faults f → IsToldAtEntry plan f)
    → AreCovered plan faults → faults ≢ [] → AreAllFaults plan faults
all_gathered plan faults told covered some = record {
  each = λ f has. (let is : IsToldAtEntry plan f = told f has in (is.0, is.1, inl is.2));
  covered = covered;
  none = λ none. absurd (some none);
}

-- none, of a sound plan
pub none_told : (plan : Network) → IsSound plan → AreCovered plan [] → AreAllFaults plan []
none_told plan sound covered = record {
  each = λ f has. absurd (nothing_in_nil f has);
  covered = covered;
  none = λ e. sound;
}

one_is_some : (fault : Fault) → (fault ∷ []) ≢ []
one_is_some fault e = cc e

-- and the one that the check names, of a plan whose entries show none
pub one_told : (plan : Network) (fault : Fault)
    → Judges plan (No fault) → AreCovered plan []
    → AreAllFaults plan (fault ∷ [])
one_told plan fault judged covered =
    let T : Fault → Type 0 = λ g. IsShown plan g × IsNamedFirst plan g × IsFirstOfPlan plan g in
    record {
      each = λ f has.
          (let is : T f = subst T (only_one fault f has) (judged.0, judged.1, judged.2) in
          (is.0, is.1, inr is.2));
      covered = λ site cell entry.
          covered_more plan [] (fault ∷ []) fault refl site cell (covered site cell entry);
      none = λ none. absurd (one_is_some fault none);
    }

-- what keeps the check from a verdict keeps it from the faults
pub refuses_too : (plan : Network) (e : CheckFault)
    → AnswersCheck plan (Err e)
    → AnswersAll plan (Err e)
refuses_too plan TooLarge large = large
refuses_too plan Memory want = tt

pub some_gathered : (faults : List Fault) → (length faults == 0) ≡ false → faults ≢ []
some_gathered faults some none =
    (let e : (length faults == 0) ≡ true = ap (λ (fs : List Fault). length fs == 0) none in
    cc (some, e))
