-- Loops that look for an element.
use Rattle.std.proofs.Common.{◌≡◌, ℕ, ◌+◌, ◌<◌, ◌↔◌, inl, inr, refl, sym, ap, subst, ◌∙◌, true, false, List, [], ◌∷◌, ◌++◌, length, get_or, take, Contains, IsTrue, arith}
use Rattle.std.proofs.lemmas.Bool.{false≢true}
use Rattle.std.proofs.lemmas.List.{take_more}
use Rattle.std.proofs.lemmas.List.Elements.{Contains-push_cases}

module _ {X : Type 0} (P : X → Type 0) where
  -- it was none of these
  abbrev pub NoneOf : List X → Type 0
  NoneOf xs = (y : X) → Contains xs y → P y → ⊥

  pub none_more : (xs : List X) (i : ℕ) (x : X) → i < length xs → x ≡ get_or xs i x → (P x → ⊥) → NoneOf (take i xs) → NoneOf (take (i + 1) xs)
  none_more xs i x lt at isnt none y among is =
      let pushed : take (i + 1) xs ≡ take i xs ++ x ∷ [] = take_more xs i x lt ∙ ap (λ (z : X). take i xs ++ z ∷ []) (sym at) in
      elim (Contains-push_cases (take i xs) x y (subst (λ (ys : List X). Contains ys y) pushed among)) [
        | inl before ↦ none y before is
        | inr same ↦ isnt (subst P (sym same) is)
      ]

  -- the same where the element has no name of its own
  pub none_more_at : (xs : List X) (i : ℕ) (d : X) → i < length xs → (P (get_or xs i d) → ⊥) → NoneOf (take i xs) → NoneOf (take (i + 1) xs)
  none_more_at xs i d lt isnt none y among is =
      elim (Contains-push_cases (take i xs) (get_or xs i d) y (subst (λ (ys : List X). Contains ys y) (take_more xs i d lt) among)) [
        | inl before ↦ none y before is
        | inr same ↦ isnt (subst P (sym same) is)
      ]

  pub none_found : (xs : List X) (i : ℕ) → take i xs ≡ xs → NoneOf (take i xs) → IsTrue false ↔ ((y : X) × Contains xs y × P y)
  none_found xs i all none = (
    λ h. absurd (false≢true h),
    λ h. absurd (none h.0 (subst (λ (ys : List X). Contains ys h.0) (sym all) h.1) h.2),
  )
