-- Lists of what a function makes of each element.
use Rattle.std.proofs.Common.{◌≡◌, ◌≢◌, ℕ, ◌+◌, ◌<◌, inl, inr, refl, sym, ◌∙◌, ap, subst, List, [], ◌∷◌, map, length, get_or, Contains, arith}
use Rattle.std.specs.Prelude.{All, AllPairs, sum_by}
use Rattle.std.proofs.lemmas.List.{get_or-map, length-map}
use Rattle.std.proofs.lemmas.List.Sums.{sum_by-cons}
use Rattle.dr_plan_model.proofs.Gathered.{Contains-cons_cases, Contains-here, Contains-there, nothing_in_nil}

pub All-unmap : {X Y : Type 0} (f : X → Y) (P : Y → Type 0) (xs : List X) → All P (map f xs) → All (λ x. P (f x)) xs
All-unmap f P xs all = λ k d h. subst P (get_or-map f xs k d (f d) h) (all k (f d) (rw (length-map xs f) h))

pub AllPairs-unmap : {X Y : Type 0} (f : X → Y) (xs : List X) → AllPairs (λ a b. a ≢ b) (map f xs) → AllPairs (λ a b. f a ≢ f b) xs
AllPairs-unmap f xs apart = λ i j d i_lt j_lt same.
    let i_in : i < length xs = omega arith in
    apart i j (f d) i_lt (rw (length-map xs f) j_lt) (get_or-map f xs i d (f d) i_in ∙ (same ∙ sym (get_or-map f xs j d (f d) j_lt)))

pub AllPairs-weaker : {X : Type 0} (R S : X → X → Type 0) (xs : List X) → ((x y : X) → R x y → S x y) → AllPairs R xs → AllPairs S xs
AllPairs-weaker R S xs weaker apart = λ i j d i_lt j_lt. weaker (get_or xs i d) (get_or xs j d) (apart i j d i_lt j_lt)

pub sum_by-map : {X Y : Type 0} (f : X → Y) (n : Y → ℕ) (xs : List X) → sum_by n (map f xs) ≡ sum_by (λ x. n (f x)) xs
sum_by-map f n [] = refl
sum_by-map f n (x ∷ xs) = sum_by-cons n (f x) (map f xs) ∙ (ap (λ t. n (f x) + t) (sum_by-map f n xs) ∙ sym (sum_by-cons (λ x. n (f x)) x xs))

pub Contains-unmap : {X Y : Type 0} (f : X → Y) (xs : List X) (y : Y) → Contains (map f xs) y → (x : X) × Contains xs x × (f x ≡ y)
Contains-unmap f [] y among = absurd (nothing_in_nil y among)
Contains-unmap f (x ∷ xs) y among = elim (Contains-cons_cases (f x) (map f xs) y among) [
  | inl same ↦ (x, Contains-here x xs, same)
  | inr later ↦ (let found = Contains-unmap f xs y later in (found.0, Contains-there x xs found.0 found.1, found.2))
]

pub not_nil-unmap : {X Y : Type 0} (f : X → Y) (xs : List X) → map f xs ≢ [] → xs ≢ []
not_nil-unmap f [] some e = some refl
not_nil-unmap f (x ∷ xs) some e = cc
