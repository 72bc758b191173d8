-- Where a key stands among entries in order.
use Rattle.std.specs.Prelude.{◌≡◌, ℕ, ◌<◌, ◌≤◌, List, length, not, set, remove, None, Some, Result}
use Rattle.std.specs.Prelude.{Ok, Err}
use Rattle.std.specs.List.{insert, HoldsAt}
use Rattle.std.specs.declared.cmp.Ordering.{Ordering}
use Rattle.std.specs.Ordering.{eq_by_cmp}
use Rattle.std.specs.FinMap.{find, put}
use Rattle.std.specs.FinMap.Entries.{where_key}

-- the entries but that of the key
abbrev pub without : {K X : Type 0} → (K → K → Ordering) → K → List (K × X) → List (K × X)
without R k es = where_key R (λ x. not (eq_by_cmp R k x)) es

-- what stands at the key's place
abbrev pub IsThere : {K X : Type 0} → (K → K → Ordering) → K → List (K × X) → ℕ → K × X → Type 0
IsThere {X = X} R k es i e =
    (find R k es ≡ Some e.1)
    × ((v : X) → put R k v es ≡ set es i (e.0, v))
    × (remove es i ≡ without R k es)

-- the key's place, or the place where it would go
abbrev pub IsPlace : {K X : Type 0} → (K → K → Ordering) → K → List (K × X) → Result ℕ ℕ → Type 0
IsPlace {X = X} R k es (Ok i) = (i < length es) × HoldsAt (IsThere R k es i) es i
IsPlace {X = X} R k es (Err i) =
    (i ≤ length es) × (find R k es ≡ None)
    × ((v : X) → put R k v es ≡ insert es i (k, v))
    × (without R k es ≡ es)
