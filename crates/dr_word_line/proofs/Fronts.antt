-- A list of at least so many words: those at its first places, and what is behind them.
use Rattle.std.proofs.Common.{◌≡◌, ◌∙◌, ◌-◌, ◌≤◌, ap, arith, drop, get_or, length, refl, sym, take, ℕ, List, [], ◌∷◌}
use Rattle.std.proofs.lemmas.List.{take_rest}

module _ {X : Type 0} (d : X) where
  front_2 : (words : List X) → 2 ≤ length words → words ≡ get_or words 0 d ∷ get_or words 1 d ∷ drop 2 words
  front_2 [] least = absurd (omega (arith, least))
  front_2 (a ∷ []) least = absurd (omega (arith, least))
  front_2 (a ∷ b ∷ more) least = refl

  pub first_2 : (words : List X) → 2 ≤ length words → words ≡ get_or words 0 d ∷ get_or words 1 d ∷ take (length words - 2) (drop 2 words)
  first_2 words least =
      front_2 words least ∙ ap (λ more. get_or words 0 d ∷ get_or words 1 d ∷ more) (sym (take_rest words 2))

  front_5 : (words : List X) → 5 ≤ length words → words ≡ get_or words 0 d ∷ get_or words 1 d ∷ get_or words 2 d ∷ get_or words 3 d ∷ get_or words 4 d ∷ drop 5 words
  front_5 [] least = absurd (omega (arith, least))
  front_5 (a ∷ []) least = absurd (omega (arith, least))
  front_5 (a ∷ b ∷ []) least = absurd (omega (arith, least))
  front_5 (a ∷ b ∷ c ∷ []) least = absurd (omega (arith, least))
  front_5 (a ∷ b ∷ c ∷ e ∷ []) least = absurd (omega (arith, least))
  front_5 (a ∷ b ∷ c ∷ e ∷ f ∷ more) least = refl

  pub first_5 : (words : List X) → 5 ≤ length words → words ≡ get_or words 0 d ∷ get_or words 1 d ∷ get_or words 2 d ∷ get_or words 3 d ∷ get_or words 4 d ∷ take (length words - 5) (drop 5 words)
  first_5 words least =
      front_5 words least
      ∙ ap (λ more. get_or words 0 d ∷ get_or words 1 d ∷ get_or words 2 d ∷ get_or words 3 d ∷ get_or words 4 d ∷ more) (sym (take_rest words 5))

  front_6 : (words : List X) → 6 ≤ length words → words ≡ get_or words 0 d ∷ get_or words 1 d ∷ get_or words 2 d ∷ get_or words 3 d ∷ get_or words 4 d ∷ get_or words 5 d ∷ drop 6 words
  front_6 [] least = absurd (omega (arith, least))
  front_6 (a ∷ []) least = absurd (omega (arith, least))
  front_6 (a ∷ b ∷ []) least = absurd (omega (arith, least))
  front_6 (a ∷ b ∷ c ∷ []) least = absurd (omega (arith, least))
  front_6 (a ∷ b ∷ c ∷ e ∷ []) least = absurd (omega (arith, least))
  front_6 (a ∷ b ∷ c ∷ e ∷ f ∷ []) least = absurd (omega (arith, least))
  front_6 (a ∷ b ∷ c ∷ e ∷ f ∷ g ∷ more) least = refl

  pub first_6 : (words : List X) → 6 ≤ length words → words ≡ get_or words 0 d ∷ get_or words 1 d ∷ get_or words 2 d ∷ get_or words 3 d ∷ get_or words 4 d ∷ get_or words 5 d ∷ take (length words - 6) (drop 6 words)
  first_6 words least =
      front_6 words least
      ∙ ap (λ more. get_or words 0 d ∷ get_or words 1 d ∷ get_or words 2 d ∷ get_or words 3 d ∷ get_or words 4 d ∷ get_or words 5 d ∷ more) (sym (take_rest words 6))
