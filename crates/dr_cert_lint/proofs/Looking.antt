-- Loops that look for an element.
use Rattle.std.proofs.Common.{◌≡◌, ℕ, ◌+◌, ◌<◌, ◌↔◌, inl, inr, refl, sym, ap, subst, ◌∙◌, true, false, List, [], ◌∷◌, ◌++◌, length, get_or, take, Contains, IsTrue, arith}
use Rattle.std.proofs.lemmas.Bool.{false≢true}
use Rattle.std.proofs.lemmas.List.{take_more}
use Rattle.std.proofs.lemmas.List.Elements.{Contains-push_cases}
use Rattle.dr_plan_model.proofs.Gathered.{nothing_in_nil}

module _ {X : Type 0} (P : X → Type 0) where
  -- it was none of these
  abbrev pub NoneOf : List X → Type 0
  NoneOf xs = (y : X) → Contains xs y → P y → ⊥

  pub none_at_first : NoneOf []
  none_at_first y among is = nothing_in_nil y among

  pub none_more : (xs : List X) (i : ℕ) (x : X) → i < length xs → x ≡ get_or xs i x → (P x → ⊥) → NoneOf (take i xs) → NoneOf (take (i + 1) xs)
  none_more xs i x lt at isnt none y among is =
      let pushed : take (i + 1) xs ≡ take i xs ++ x ∷ [] = take_more xs i x lt ∙ ap (λ (z : X). take i xs ++ z ∷ []) (sym at) in
      elim (Contains-push_cases (take i xs) x y (subst (λ (ys : List X). Contains ys y) pushed among)) [
        | inl before ↦ none y before is
        | inr same ↦ isnt (subst P (sym same) is)
      ]

  pub found : (xs : List X) (i : ℕ) (x : X) → i < length xs → x ≡ get_or xs i x → P x → IsTrue true ↔ ((y : X) × Contains xs y × P y)
  found xs i x lt at is = (λ h. (x, (i, lt, sym at), is), λ h. refl)

  pub none_found : (xs : List X) (i : ℕ) → take i xs ≡ xs → NoneOf (take i xs) → IsTrue false ↔ ((y : X) × Contains xs y × P y)
  none_found xs i all none = (
    λ h. absurd (false≢true h),
    λ h. absurd (none h.0 (subst (λ (ys : List X). Contains ys h.0) (sym all) h.1) h.2),
  )
