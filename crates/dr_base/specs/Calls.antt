-- Calls of one thing that changes, one after the other.
use Rattle.std.specs.Prelude.{◌≡◌, List, [], ◌∷◌}

-- What a list of calls makes of a state. `Does old call new` says what one call, with its answer,
-- makes of it.
abbrev pub Calls : {S C : Type 0} → (S → C → S → Type 0) → S → List C → S → Type 0
Calls Does old [] new = old ≡ new
Calls {S} Does old (call ∷ calls) new = (mid : S) × Does old call mid × Calls Does mid calls new
