-- Flows that are narrowed one after another.
use Rattle.std.proofs.Common.{◌≡◌, ℕ, ◌⊎◌, inl, inr, sym, ◌∙◌, subst, List, [], ◌∷◌, ◌++◌, Contains, Some}
use Rattle.std.specs.Prelude.{slice_get, ◌↔◌}
use Rattle.std.proofs.lemmas.Option.{same_Some}
use Rattle.std.proofs.lemmas.List.Elements.{Contains-push, Contains-push_cases, Contains-append_left}
use Rattle.dr_base.specs.Texts.{Text}
use Rattle.dr_route.specs.declared.cell.OwnedField.{OwnedField}
use Rattle.dr_route.specs.declared.cell.OwnedField.TheVariants.{Literal}
use Rattle.dr_route.specs.declared.cell.FieldValues.{FieldValues}
use Rattle.dr_plan_model.specs.declared.plan.Flow.{Flow}
use Rattle.dr_plan_model.specs.declared.plan.Values.{Values}
use Rattle.dr_plan_model.specs.declared.plan.Values.TheVariants as values
use Rattle.dr_plan_model.specs.Naming.{listed_literals, listed_prefixes}
use Rattle.dr_plan_model.specs.Walks.{BeginsOne}
use Rattle.dr_plan_model.proofs.Gathered.{nothing_in_nil}
use Rattle.dr_plan_entries.specs.declared.narrow.Part.{Part}
use Rattle.dr_plan_entries.specs.Entering.{AdmitsField, SpeaksOf, AreNarrowed}

pub narrowed_none : (flows : List Flow) (part : Part) → AreNarrowed flows [] part []
narrowed_none flows part k = (λ h. absurd (nothing_in_nil k h), λ h. absurd (nothing_in_nil k h.0))

pub narrowed_one_more : (flows : List Flow) (among found : List ℕ) (part : Part) (place : ℕ) (flow : Flow) → slice_get flows place ≡ Some flow → SpeaksOf flow part →
    AreNarrowed flows among part found → AreNarrowed flows (among ++ place ∷ []) part (found ++ place ∷ [])
narrowed_one_more flows among found part place flow at speaks so_far k = (
  λ h. elim (Contains-push_cases found place k h) [
    | inl before ↦ (let x = (so_far k).0 before in (Contains-append_left among (place ∷ []) k x.0, x.1))
    | inr same ↦
        let P : ℕ → Type 0 = λ n. Contains (among ++ place ∷ []) n × ((f : Flow) × (slice_get flows n ≡ Some f) × SpeaksOf f part) in
        subst P same (Contains-push among place, (flow, at, speaks))
  ],
  λ h. elim (Contains-push_cases among place k h.0) [
    | inl before ↦ Contains-append_left found (place ∷ []) k ((so_far k).1 (before, h.1))
    | inr same ↦ (let P : ℕ → Type 0 = λ n. Contains (found ++ place ∷ []) n in subst P same (Contains-push found place))
  ],
)

pub narrowed_passed_over : (flows : List Flow) (among found : List ℕ) (part : Part) (place : ℕ) (flow : Flow) → slice_get flows place ≡ Some flow → (SpeaksOf flow part → ⊥) →
    AreNarrowed flows among part found → AreNarrowed flows (among ++ place ∷ []) part found
narrowed_passed_over flows among found part place flow at fails so_far k = (
  λ h. (let x = (so_far k).0 h in (Contains-append_left among (place ∷ []) k x.0, x.1)),
  λ h. elim (Contains-push_cases among place k h.0) [
    | inl before ↦ (so_far k).1 (before, h.1)
    | inr same ↦
        let P : ℕ → Type 0 = λ n. slice_get flows n ≡ Some flow in
        let e : h.1.0 ≡ flow = same_Some _ _ (sym h.1.1 ∙ subst P same at) in
        let Q : Flow → Type 0 = λ f. SpeaksOf f part in
        absurd (fails (subst Q e h.1.2))
  ],
)

-- a literal is taken in where the flow lists it, or what it begins with
pub admits_literal : (v : Values) (own : FieldValues) (one : OwnedField) (literal : Text) → v ≡ values.Listed own → one ≡ Literal literal →
    AdmitsField v one ↔ (Contains (listed_literals v) literal ⊎ BeginsOne (listed_prefixes v) literal)
admits_literal v own one literal is lit =
    let P : Values → Type 0 = λ x. AdmitsField x one ↔ (Contains (listed_literals x) literal ⊎ BeginsOne (listed_prefixes x) literal) in
    let Q : OwnedField → Type 0 = λ f. AdmitsField (values.Listed own) f ↔ (Contains own.literals literal ⊎ BeginsOne own.prefixes literal) in
    subst P (sym is) (subst Q (sym lit) (λ h. h, λ h. h))
