-- Some elements of a list, in their order.
use Rattle.std.proofs.Common.{◌≡◌, ℕ, ◌+◌, ◌<◌, ◌⊎◌, ◌↔◌, inl, inr, sym, ap, subst, ◌∙◌, List, [], ◌∷◌, ◌++◌, length, get_or, take, Contains, arith}
use Rattle.std.specs.Prelude.{AllPairs}
use Rattle.std.proofs.lemmas.List.{take_more, length-take-le, get_or-take}
use Rattle.std.proofs.lemmas.List.{get_or_default}
use Rattle.std.proofs.lemmas.List.Quantifiers.{all_pairs_push}
use Rattle.std.proofs.lemmas.List.Elements.{Contains-push_cases, Contains-push, Contains-append_left}
use Rattle.dr_plan_model.proofs.Gathered.{nothing_in_nil}

-- of all elements those with the property
pub record Are {X : Type 0} (P : X → Type 0) (all own : List X) : Type 0 where
  pub each : (x : X) → Contains own x ↔ (Contains all x × P x)

pub none : {X : Type 0} (P : X → Type 0) → Are P [] []
none P = record { each = λ x. (λ h. absurd (nothing_in_nil x h), λ h. absurd (nothing_in_nil x h.0)) }

module _ {X : Type 0} (P : X → Type 0) (all own : List X) (i : ℕ) (y : X) (lt : i < length all) (at : y ≡ get_or all i y) where
  pushed : take (i + 1) all ≡ take i all ++ y ∷ []
  pushed = take_more all i y lt ∙ ap (λ (x : X). take i all ++ x ∷ []) (sym at)

  among : (x : X) → Contains (take (i + 1) all) x → Contains (take i all) x ⊎ (y ≡ x)
  among x h = Contains-push_cases (take i all) y x (subst (λ (xs : List X). Contains xs x) pushed h)

  still : (x : X) → Contains (take i all) x → Contains (take (i + 1) all) x
  still x h = subst (λ (xs : List X). Contains xs x) (sym pushed) (Contains-append_left (take i all) (y ∷ []) x h)

  new : Contains (take (i + 1) all) y
  new = subst (λ (xs : List X). Contains xs y) (sym pushed) (Contains-push (take i all) y)

  -- one more that has it
  pub more : P y → Are P (take i all) own → Are P (take (i + 1) all) (own ++ y ∷ [])
  more has so_far = record {
    each = λ x. (
      λ h. elim (Contains-push_cases own y x h) [
        | inl before ↦ (let b = (so_far.each x).0 before in (still x b.0, b.1))
        | inr same ↦ (subst (λ (z : X). Contains (take (i + 1) all) z) same new, subst P same has)
      ],
      λ h. elim (among x h.0) [
        | inl before ↦ Contains-append_left own (y ∷ []) x ((so_far.each x).1 (before, h.1))
        | inr same ↦ subst (λ (z : X). Contains (own ++ y ∷ []) z) same (Contains-push own y)
      ],
    );
  }

  -- one that hasn't
  pub passed : (P y → ⊥) → Are P (take i all) own → Are P (take (i + 1) all) own
  passed hasnt so_far = record {
    each = λ x. (
      λ h. (let b = (so_far.each x).0 h in (still x b.0, b.1)),
      λ h. elim (among x h.0) [
        | inl before ↦ (so_far.each x).1 (before, h.1)
        | inr same ↦ absurd (hasnt (subst P (sym same) h.1))
      ],
    );
  }

  -- what was taken before stands in front of it
  before : (x : X) → Contains own x → Are P (take i all) own → (m : ℕ) × (m < i) × (get_or all m x ≡ x)
  before x h so_far =
      let b = ((so_far.each x).0 h).0 in
      let in_front : b.0 < length (take i all) = b.1 in
      let few : length (take i all) ≡ i = length-take-le i all (omega arith) in
      let m : b.0 < i = omega arith in
      (b.0, m, sym (get_or-take i all b.0 x m) ∙ b.2)

  -- they stay in order
  pub in_order : (R : X → X → Type 0) → Are P (take i all) own → (AllPairs R all → AllPairs R own) → AllPairs R all → AllPairs R (own ++ y ∷ [])
  in_order R so_far order whole = all_pairs_push R own y (order whole) (λ k d within.
      (let z = get_or own k d in
      let h = before z (k, within, get_or_default own k z d within) so_far in
      subst (λ (x : X). R z x) (sym (at ∙ get_or_default all i y z lt)) (subst (λ (x : X). R x (get_or all i z)) h.2 (whole h.0 i z h.1 lt))))

  -- one more, if it has the property
  pub goes_on : (R : X → X → Type 0) (next : List X) → ((P y × (next ≡ own ++ y ∷ [])) ⊎ ((P y → ⊥) × (next ≡ own))) →
      Are P (take i all) own × (AllPairs R all → AllPairs R own) → Are P (take (i + 1) all) next × (AllPairs R all → AllPairs R next)
  goes_on R next step so_far = elim step [
    | inl has ↦ subst (λ (xs : List X). Are P (take (i + 1) all) xs × (AllPairs R all → AllPairs R xs)) (sym has.1) (more has.0 so_far.0, in_order R so_far.0 so_far.1)
    | inr hasnt ↦ subst (λ (xs : List X). Are P (take (i + 1) all) xs × (AllPairs R all → AllPairs R xs)) (sym hasnt.1) (passed hasnt.0 so_far.0, so_far.1)
  ]

pub none_in_order : {X : Type 0} (R : X → X → Type 0) → AllPairs R []
none_in_order R i j d lt within = absurd (omega arith)
