-- The first value of a list that has a fault.
use Rattle.std.specs.Prelude.{◌≡◌, ℕ, List, Some, All, slice_get, take}
use Rattle.dr_base.specs.Texts.{Text}

-- at this index of the list stands a value that has the fault at that place, and no value before it
-- has one
pub record IsFirstAt {X L : Type 0} (IsFree : X → Type 0) (IsAt : X → L → Type 0) (xs : List X)
    (index : ℕ) (place : L) : Type 0 where
  pub value : X
  pub stands : slice_get xs index ≡ Some value
  pub at : IsAt value place
  pub before : All IsFree (take index xs)

-- at this index of the list stands a text that hasn't the property, and each text before it has it
pub record IsFirstBad (P : Text → Type 0) (texts : List Text) (index : ℕ) : Type 0 where
  pub text : Text
  pub stands : slice_get texts index ≡ Some text
  pub bad : P text → ⊥
  pub before : All P (take index texts)

-- nothing has the property
abbrev pub HasNone : {X : Type 0} → (X → Type 0) → Type 0
HasNone {X} P = (x : X) → P x → ⊥
