-- The first 100 of a list that pass a test, where it is looked at from its beginning.
use Rattle.std.proofs.Common.{◌≡◌, ◌≤◌, ◌+◌, ◌∙◌, ℕ, Bool, List, subst, ap, filter, take, drop, length, arith}
use Rattle.std.proofs.lemmas.List.{take_all, take-append-drop, take-append-le}
use Rattle.std.proofs.lemmas.List.Elements.{filter-append}

-- where the list has come to its end, no more than 100 were found
pub ended : {X : Type 0} (p : X → Bool) (xs : List X) (i left : ℕ) → length xs ≤ i → length (filter p (take i xs)) + left ≡ 100 → take 100 (filter p xs) ≡ filter p (take i xs)
ended {X} p xs i left all count =
    let whole : take i xs ≡ xs = take_all i xs all in
    subst (λ (ys : List X). take 100 (filter p ys) ≡ filter p (take i xs)) whole (take_all 100 (filter p (take i xs)) (omega (arith, count)))

-- where 100 were found, these are the first
pub full : {X : Type 0} (p : X → Bool) (xs : List X) (i left : ℕ) → left ≡ 0 → length (filter p (take i xs)) + left ≡ 100 → take 100 (filter p xs) ≡ filter p (take i xs)
full {X} p xs i left none count =
    subst (λ (ys : List X). take 100 (filter p ys) ≡ filter p (take i xs)) (take-append-drop i xs)
    (ap (λ (ys : List X). take 100 ys) (filter-append p (take i xs) (drop i xs))
    ∙ (take-append-le 100 (filter p (take i xs)) (filter p (drop i xs)) (omega (arith, count, none))
    ∙ take_all 100 (filter p (take i xs)) (omega (arith, count, none))))
