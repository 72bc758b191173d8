-- A list of so many words has just those that stand at each place.
use Rattle.std.proofs.Common.{◌≡◌, ◌∙◌, ◌<◌, ◌≤◌, arith, get_or, length, refl, sym, ℕ, Bool, true, eqb, List, [], ◌∷◌}
use Rattle.std.specs.Cmp.Lexicographic.{pointwise}
use Rattle.std.proofs.lemmas.Slice.Eq.{bytes_eq-Decides}

module _ {X : Type 0} (d : X) where
  pub places_1 : (words : List X) → 1 ≤ length words → length words < 2 → words ≡ get_or words 0 d ∷ []
  places_1 [] least most = absurd (omega (arith, least))
  places_1 (a ∷ []) least most = refl
  places_1 (a ∷ b ∷ more) least most = absurd (omega (arith, most))

  pub places_2 : (words : List X) → 2 ≤ length words → length words < 3 → words ≡ get_or words 0 d ∷ get_or words 1 d ∷ []
  places_2 [] least most = absurd (omega (arith, least))
  places_2 (a ∷ []) least most = absurd (omega (arith, least))
  places_2 (a ∷ b ∷ []) least most = refl
  places_2 (a ∷ b ∷ c ∷ more) least most = absurd (omega (arith, most))

  pub places_3 : (words : List X) → 3 ≤ length words → length words < 4 → words ≡ get_or words 0 d ∷ get_or words 1 d ∷ get_or words 2 d ∷ []
  places_3 [] least most = absurd (omega (arith, least))
  places_3 (a ∷ []) least most = absurd (omega (arith, least))
  places_3 (a ∷ b ∷ []) least most = absurd (omega (arith, least))
  places_3 (a ∷ b ∷ c ∷ []) least most = refl
  places_3 (a ∷ b ∷ c ∷ e ∷ more) least most = absurd (omega (arith, most))

  pub places_4 : (words : List X) → 4 ≤ length words → length words < 5 → words ≡ get_or words 0 d ∷ get_or words 1 d ∷ get_or words 2 d ∷ get_or words 3 d ∷ []
  places_4 [] least most = absurd (omega (arith, least))
  places_4 (a ∷ []) least most = absurd (omega (arith, least))
  places_4 (a ∷ b ∷ []) least most = absurd (omega (arith, least))
  places_4 (a ∷ b ∷ c ∷ []) least most = absurd (omega (arith, least))
  places_4 (a ∷ b ∷ c ∷ e ∷ []) least most = refl
  places_4 (a ∷ b ∷ c ∷ e ∷ f ∷ more) least most = absurd (omega (arith, most))

  pub places_5 : (words : List X) → 5 ≤ length words → length words < 6 → words ≡ get_or words 0 d ∷ get_or words 1 d ∷ get_or words 2 d ∷ get_or words 3 d ∷ get_or words 4 d ∷ []
  places_5 [] least most = absurd (omega (arith, least))
  places_5 (a ∷ []) least most = absurd (omega (arith, least))
  places_5 (a ∷ b ∷ []) least most = absurd (omega (arith, least))
  places_5 (a ∷ b ∷ c ∷ []) least most = absurd (omega (arith, least))
  places_5 (a ∷ b ∷ c ∷ e ∷ []) least most = absurd (omega (arith, least))
  places_5 (a ∷ b ∷ c ∷ e ∷ f ∷ []) least most = refl
  places_5 (a ∷ b ∷ c ∷ e ∷ f ∷ g ∷ more) least most = absurd (omega (arith, most))

  pub places_6 : (words : List X) → 6 ≤ length words → length words < 7 → words ≡ get_or words 0 d ∷ get_or words 1 d ∷ get_or words 2 d ∷ get_or words 3 d ∷ get_or words 4 d ∷ get_or words 5 d ∷ []
  places_6 [] least most = absurd (omega (arith, least))
  places_6 (a ∷ []) least most = absurd (omega (arith, least))
  places_6 (a ∷ b ∷ []) least most = absurd (omega (arith, least))
  places_6 (a ∷ b ∷ c ∷ []) least most = absurd (omega (arith, least))
  places_6 (a ∷ b ∷ c ∷ e ∷ []) least most = absurd (omega (arith, least))
  places_6 (a ∷ b ∷ c ∷ e ∷ f ∷ []) least most = absurd (omega (arith, least))
  places_6 (a ∷ b ∷ c ∷ e ∷ f ∷ g ∷ []) least most = refl
  places_6 (a ∷ b ∷ c ∷ e ∷ f ∷ g ∷ h ∷ more) least most = absurd (omega (arith, most))

  pub places_7 : (words : List X) → 7 ≤ length words → length words < 8 → words ≡ get_or words 0 d ∷ get_or words 1 d ∷ get_or words 2 d ∷ get_or words 3 d ∷ get_or words 4 d ∷ get_or words 5 d ∷ get_or words 6 d ∷ []
  places_7 [] least most = absurd (omega (arith, least))
  places_7 (a ∷ []) least most = absurd (omega (arith, least))
  places_7 (a ∷ b ∷ []) least most = absurd (omega (arith, least))
  places_7 (a ∷ b ∷ c ∷ []) least most = absurd (omega (arith, least))
  places_7 (a ∷ b ∷ c ∷ e ∷ []) least most = absurd (omega (arith, least))
  places_7 (a ∷ b ∷ c ∷ e ∷ f ∷ []) least most = absurd (omega (arith, least))
  places_7 (a ∷ b ∷ c ∷ e ∷ f ∷ g ∷ []) least most = absurd (omega (arith, least))
  places_7 (a ∷ b ∷ c ∷ e ∷ f ∷ g ∷ h ∷ []) least most = refl
  places_7 (a ∷ b ∷ c ∷ e ∷ f ∷ g ∷ h ∷ i ∷ more) least most = absurd (omega (arith, most))

  pub places_8 : (words : List X) → 8 ≤ length words → length words < 9 → words ≡ get_or words 0 d ∷ get_or words 1 d ∷ get_or words 2 d ∷ get_or words 3 d ∷ get_or words 4 d ∷ get_or words 5 d ∷ get_or words 6 d ∷ get_or words 7 d ∷ []
  places_8 [] least most = absurd (omega (arith, least))
  places_8 (a ∷ []) least most = absurd (omega (arith, least))
  places_8 (a ∷ b ∷ []) least most = absurd (omega (arith, least))
  places_8 (a ∷ b ∷ c ∷ []) least most = absurd (omega (arith, least))
  places_8 (a ∷ b ∷ c ∷ e ∷ []) least most = absurd (omega (arith, least))
  places_8 (a ∷ b ∷ c ∷ e ∷ f ∷ []) least most = absurd (omega (arith, least))
  places_8 (a ∷ b ∷ c ∷ e ∷ f ∷ g ∷ []) least most = absurd (omega (arith, least))
  places_8 (a ∷ b ∷ c ∷ e ∷ f ∷ g ∷ h ∷ []) least most = absurd (omega (arith, least))
  places_8 (a ∷ b ∷ c ∷ e ∷ f ∷ g ∷ h ∷ i ∷ []) least most = refl
  places_8 (a ∷ b ∷ c ∷ e ∷ f ∷ g ∷ h ∷ i ∷ j ∷ more) least most = absurd (omega (arith, most))

-- two words of which a test says that they are the same
pub same_word : (answer : Bool) (word other : List ℕ) → answer ≡ pointwise eqb word other → answer ≡ true → word ≡ other
same_word answer word other is same = (bytes_eq-Decides word other).0 (sym is ∙ same)
