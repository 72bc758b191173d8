-- Lists: the first element that has a property, and what the elements yield.
use Rattle.std.specs.Prelude.{◌≡◌, ◌⊎◌, List, [], ◌∷◌, ◌++◌}

-- the first element that has the property
abbrev pub IsFirst : {X : Type 0} → (X → Type 0) → List X → X → Type 0
IsFirst P [] x = ⊥
IsFirst P (y ∷ ys) x = (P y × (x ≡ y)) ⊎ ((P y → ⊥) × IsFirst P ys x)

-- each element yields some things; one after another these are the whole
abbrev pub Yields : {X Y : Type 0} → (X → List Y → Type 0) → List X → List Y → Type 0
Yields Of [] things = things ≡ []
Yields {X} {Y} Of (x ∷ xs) things =
    (here : List Y) × (more : List Y) × Of x here × Yields Of xs more × (things ≡ here ++ more)
