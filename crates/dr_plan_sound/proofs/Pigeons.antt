-- Different elements of a list are no more than the list has.
use Rattle.std.proofs.Common.{◌≡◌, ◌≢◌, ℕ, suc, ◌<◌, ◌≤◌, ◌⊎◌, inl, inr, refl, sym, ◌∙◌, ap, List, [], ◌∷◌, length, get_or, Contains, arith, true, false}
use Rattle.std.specs.Prelude.{All, AllPairs, nat_eq}
use Rattle.std.specs.List.{list_any, IsDistinct, AllByRecursion}
use Rattle.std.proofs.lemmas.Bool.{cases_Bool, false≢true}
use Rattle.std.proofs.lemmas.Bool.Decides.{Decides-eqb}
use Rattle.std.proofs.lemmas.List.{get_or_default}
use Rattle.std.proofs.lemmas.List.Elements.{All-head, All-tail}
use Rattle.std.proofs.lemmas.Map.Steps.{length-le_from_distinct_below}

-- the places at which a list has the elements of another
record Places {X : Type 0} (all xs : List X) : Type 0 where
  at : List ℕ
  long : length at ≡ length xs
  distinct : IsDistinct nat_eq at
  below : (q : ℕ) → list_any (nat_eq q) at ≡ true → q < length all
  shows : (q : ℕ) → list_any (nat_eq q) at ≡ true → (k : ℕ) × (k < length xs) × ((d : X) → get_or all q d ≡ get_or xs k d)

each_apart : (n : ℕ) (ns : List ℕ) → (list_any (nat_eq n) ns ≡ true → ⊥) → AllByRecursion (λ y. nat_eq n y ≡ false) ns
each_apart n [] none = tt
each_apart n (m ∷ ns) none = elim (cases_Bool (nat_eq n m)) [
  | inl same ↦ absurd (none (rw same refl))
  | inr other ↦ (other, each_apart n ns (λ h. none (rw (other, h) refl)))
]

tail_apart : {X : Type 0} (x : X) (xs : List X) → AllPairs (λ a b. a ≢ b) (x ∷ xs) → AllPairs (λ a b. a ≢ b) xs
tail_apart x xs apart i j d lt h = apart (suc i) (suc j) d (omega arith) (omega arith)

head_apart : {X : Type 0} (x : X) (xs : List X) → AllPairs (λ a b. a ≢ b) (x ∷ xs) → (k : ℕ) (d : X) → k < length xs → x ≢ get_or xs k d
head_apart x xs apart k d h = apart 0 (suc k) d (omega arith) (omega arith)

places_of : {X : Type 0} (all xs : List X) → AllPairs (λ a b. a ≢ b) xs → All (Contains all) xs → Places all xs
unfolding IsDistinct
places_of all [] apart each = record { at = []; long = refl; distinct = tt; below = λ q h. absurd (false≢true h); shows = λ q h. absurd (false≢true h) }
places_of all (x ∷ xs) apart each =
    let here : Contains all x = All-head (Contains all) x xs each in
    let n : ℕ = here.0 in
    let in_range : n < length all = here.1 in
    let rest = places_of all xs (tail_apart x xs apart) (All-tail (Contains all) x xs each) in
    let long : length rest.at ≡ length xs = rest.long in
    let found : (q : ℕ) → list_any (nat_eq q) (n ∷ rest.at) ≡ true → (q ≡ n) ⊎ (list_any (nat_eq q) rest.at ≡ true) =
    λ q h. elim (cases_Bool (nat_eq q n)) [ inl same ↦ inl ((Decides-eqb q n).0 same) | inr other ↦ inr (rw other at h) ] in
    record {
      at = n ∷ rest.at;
      long = omega arith;
      distinct = (
        each_apart n rest.at (λ again.
            let k = rest.shows n again in
            head_apart x xs apart k.0 x k.1 (sym here.2 ∙ k.2 x)),
        rest.distinct,
      );
      below = λ q h. elim (found q h) [ inl same ↦ omega arith | inr later ↦ rest.below q later ];
      shows = λ q h. elim (found q h) [
        | inl same ↦ (0, omega arith, λ d. ap (λ (m : ℕ). get_or all m d) same ∙ (get_or_default all n d x in_range ∙ here.2))
        | inr later ↦ let k = rest.shows q later in let lt : k.0 < length xs = k.1 in (suc k.0, omega arith, k.2)
      ];
    }

pub no_more_than : {X : Type 0} (all xs : List X) → AllPairs (λ a b. a ≢ b) xs → All (Contains all) xs → length xs ≤ length all
no_more_than all xs apart each =
    let p = places_of all xs apart each in
    let h : length p.at ≤ length all = length-le_from_distinct_below p.at (length all) p.distinct p.below in
    let e : length p.at ≡ length xs = p.long in
    omega arith
