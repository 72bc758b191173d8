-- Texts that are made of parts, one after the other.
use Rattle.std.specs.Prelude.{◌≡◌, ℕ, List, [], ◌∷◌}

-- The text begins with these parts, in order, and then the rest follows. `Starts text x rest` says
-- it of one part.
abbrev pub Run : {X : Type 0} → (List ℕ → X → List ℕ → Type 0) → List X → List ℕ → List ℕ → Type 0
Run Starts [] text rest = text ≡ rest
Run Starts (x ∷ xs) text rest = (after : List ℕ) × Starts text x after × Run Starts xs after rest

-- a text begins with one part at most, which isn't empty
pub record AreParts {X : Type 0} (Starts : List ℕ → X → List ℕ → Type 0) : Type 0 where
  pub one : (text : List ℕ) (x y : X) (a b : List ℕ)
      → Starts text x a → Starts text y b
      → ◌≡◌ {A = X × List ℕ} (x, a) (y, b)
  pub some : (x : X) (a : List ℕ) → Starts [] x a → ⊥
