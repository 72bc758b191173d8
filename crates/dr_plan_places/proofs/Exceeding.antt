-- The element for which there is no room.
use Rattle.std.proofs.Common.{◌≡◌, ◌∙◌, ℕ, ◌+◌, ◌<◌, ◌≤◌, ap, List, [], ◌∷◌, ◌++◌, length, get_or, take, sum_by, arith}
use Rattle.std.proofs.lemmas.List.{take_more}
use Rattle.std.proofs.lemmas.List.Sums.{sum_by_push}
use Rattle.dr_plan_places.specs.Excess.{IsOverAt}

pub over_at : {X : Type 0} (f : X → ℕ) (xs : List X) (i : ℕ) (x : X) (left room : ℕ) → i < length xs → x ≡ get_or xs i x →
    sum_by f (take i xs) + left ≡ room → left < f x → IsOverAt f xs room i
over_at f xs i x left room lt at so_far here =
    let grown : take (i + 1) xs ≡ take i xs ++ x ∷ [] = rw (← at) at (take_more xs i x lt) in
    let sum : sum_by f (take (i + 1) xs) ≡ sum_by f (take i xs) + f x = ap (sum_by f) grown ∙ sum_by_push f (take i xs) x in
    record { inside = lt; before = omega arith; over = omega arith }
