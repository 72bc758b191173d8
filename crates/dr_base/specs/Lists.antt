-- Lists that go together.
use Rattle.std.specs.Prelude.{List, [], ◌∷◌}

-- the two lists go together, one by one
abbrev pub Each : {A B : Type 0} → (A → B → Type 0) → List A → List B → Type 0
Each R [] [] = Unit {0}
Each R (a ∷ as') (b ∷ bs) = R a b × Each R as' bs
Each R [] (b ∷ bs) = ⊥
Each R (a ∷ as') [] = ⊥
