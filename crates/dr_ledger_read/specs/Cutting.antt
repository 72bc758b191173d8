-- What is cut off the front of a text.
use Rattle.std.specs.Prelude.{◌≡◌, Option, MatchOption}
use Rattle.std.specs.Borrow.{Bor}
use Rattle.dr_base.specs.Texts.{Text}

-- `Is x rest` says that a text is the piece of the value `x` with `rest` behind it, and
-- `Shows v x` that `v` is what was found of `x`. The text is the piece of a value, and whatever
-- value it may be that of, this one was found, with the same behind it.
pub record IsCut (V X : Type 0) (Shows : V → X → Type 0) (Is : X → Text → Type 0)
    (found : V × Bor Text) : Type 0 where
  pub value : X
  pub is : Is value found.1.now
  pub each : (x : X) (rest : Text) → Is x rest → Shows found.0 x × (rest ≡ found.1.now)

-- the text begins with the piece of no value
abbrev pub HasNone : {X : Type 0} → (X → Text → Type 0) → Type 0
HasNone {X} Is = (x : X) (rest : Text) → Is x rest → ⊥

-- what cutting a piece off answers
abbrev pub Cuts : {V X : Type 0} → (V → X → Type 0) → (X → Text → Type 0) → Option (V × Bor Text)
    → Type 0
Cuts {V} {X} Shows Is result = MatchOption result (HasNone Is) (IsCut V X Shows Is)

-- the value itself was found
abbrev pub Same : {X : Type 0} → X → X → Type 0
Same v x = v ≡ x
