-- Pieces of a text, each with what is behind it.
use Rattle.std.specs.Prelude.{◌≡◌, List, [], ◌∷◌, All}
use Rattle.dr_base.specs.Texts.{Text}

-- `spelled x rest` is the text of `x` with `rest` behind it, and `Fits x` says that a program can
-- have `x`. The text is that of this value, which fits, with this rest.
abbrev pub IsPiece : {X : Type 0} → (X → Type 0) → (X → Text → Text) → Text → X → Text → Type 0
IsPiece Fits spelled text x rest = Fits x × (text ≡ spelled x rest)

-- it is that of no value, whatever were behind it
abbrev pub HasNone : {X : Type 0} → (X → Type 0) → (X → Text → Text) → Text → Type 0
HasNone {X} Fits spelled text = (x : X) (rest : Text) → IsPiece Fits spelled text x rest → ⊥

-- a text is that of one value, with one rest
abbrev pub AreToldApart : {X : Type 0} → (X → Type 0) → (X → Text → Text) → Type 0
AreToldApart {X} Fits spelled =
    (x y : X) (a b : Text) → Fits x → Fits y → spelled x a ≡ spelled y b → (x ≡ y) × (a ≡ b)

-- values one behind the other
abbrev pub all_spelled : {X : Type 0} → (X → Text → Text) → List X → Text → Text
all_spelled spelled [] rest = rest
all_spelled spelled (x ∷ xs) rest = spelled x (all_spelled spelled xs rest)

-- the text is that of these values, and what is behind them is that of none
pub record AreAll {X : Type 0} (Fits : X → Type 0) (spelled : X → Text → Text) (text : Text)
    (xs : List X) (rest : Text) : Type 0 where
  pub fit : All Fits xs
  pub is : text ≡ all_spelled spelled xs rest
  pub ends : HasNone Fits spelled rest
