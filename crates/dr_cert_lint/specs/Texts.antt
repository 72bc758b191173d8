-- Texts that are made element by element of a list.
use Rattle.std.specs.Prelude.{◌≡◌, ℕ, ◌+◌, List, [], ◌∷◌, ◌++◌, ◌⊎◌}
use Rattle.dr_base.specs.Texts.{Text}

-- Of each element, in order, its text, of which `Has` says what it may be; `Has` knows the
-- element's number, from this one on.
abbrev pub AreRows : {X : Type 0} → (ℕ → X → Text → Type 0) → ℕ → List X → Text → Type 0
AreRows Has number [] text = text ≡ []
AreRows Has number (x ∷ xs) text =
    (here : Text) × (rest : Text) × Has number x here
    × AreRows Has (number + 1) xs rest
    × (text ≡ here ++ rest)

-- this row where that is so, and else nothing
abbrev pub RowIf : Type 0 → Text → Text → Type 0
RowIf P row text = (P × (text ≡ row)) ⊎ ((P → ⊥) × (text ≡ []))
