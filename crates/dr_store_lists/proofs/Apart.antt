-- Rows whose keys are listed and rise have keys that differ.
use Rattle.std.proofs.Common.{◌≡◌, ◌≢◌, ℕ, ◌+◌, ◌≤◌, List, [], ◌∷◌, map, fold, sum_by, Bool, true, false, T, refl, sym, ap, subst, ◌∙◌, arith, true≢false}
use Rattle.std.specs.declared.cmp.Ordering.{Ordering}
use Rattle.std.specs.declared.cmp.Ordering.TheVariants.{Less}
use Rattle.std.specs.Ordering.{eq_by_cmp, is_eq, is_lt}
use Rattle.std.specs.Cmp.{IsTotalOrder}
use Rattle.std.specs.FinMap.{IsAntisymmetric}
use Rattle.std.specs.FinMap.Entries.{is_sorted, below_all}
use Rattle.std.specs.List.{AllByRecursion}
use Rattle.std.specs.List.Sorted.{IsPermutation}
use Rattle.std.proofs.lemmas.Cmp.{tied_itself}
use Rattle.std.proofs.lemmas.List.Sorted.{sum_by-IsPermutation}
use Rattle.sqlite.specs.Tree.{IsAscending}
use Rattle.dr_store_writes.proofs.Maps as maps
use Rattle.dr_store_lists.proofs.Orders.{first_T, second_T, its_less}

abbrev one_if : Bool → ℕ
one_if true = 1
one_if false = 0

none_if : (b : Bool) (n : ℕ) → one_if b + n ≡ 0 → b ≡ false
none_if true n h = absurd (omega (arith, h))
none_if false n h = refl

total : {X : Type 0} → (X → ℕ) → List X → ℕ
total f [] = 0
total f (x ∷ xs) = f x + total f xs

folds : {X : Type 0} (f : X → ℕ) (n : ℕ) (xs : List X) → fold (λ a x. a + f x) n xs ≡ n + total f xs
unfolding total
folds f n [] = omega arith
folds f n (x ∷ xs) = folds f (n + f x) xs ∙ omega arith

sum_is : {X : Type 0} (f : X → ℕ) (xs : List X) → sum_by f xs ≡ total f xs
sum_is f xs = folds f 0 xs ∙ omega arith

module _ {K V X : Type 0} {R : K → K → Ordering} (o : IsTotalOrder R) (exact : IsAntisymmetric R) (g : X → K × V) where
  same_key : (a b : K) → eq_by_cmp R a b ≡ true → a ≡ b
  same_key a b h = exact a b (maps.equal (R a b) h)

  -- how many have the key
  abbrev count : K → List X → ℕ
  count k = total (λ x. one_if (eq_by_cmp R k (g x).0))

  -- those above a key don't have it
  above_none : (k : K) (xs : List X) → T (below_all R k (map g xs)) → count k xs ≡ 0
  unfolding total
  above_none k [] h = refl
  above_none k (x ∷ xs) h =
      let less : R k (g x).0 ≡ Less = its_less _ (first_T (is_lt (R k (g x).0)) _ h) in
      let here : one_if (eq_by_cmp R k (g x).0) ≡ 0 = ap (λ r. one_if (is_eq r)) less in
      let rest = above_none k xs (second_T (is_lt (R k (g x).0)) _ h) in
      omega (arith, here, rest)

  more : (k : K) (x : X) (xs : List X) → T (is_sorted R (map g (x ∷ xs))) → (b : Bool) → eq_by_cmp R k (g x).0 ≡ b → count k xs ≤ 1 → count k (x ∷ xs) ≤ 1
  unfolding total
  more k x xs h true is later =
      let rest : count k xs ≡ 0 = ap (λ y. count y xs) (same_key k (g x).0 is) ∙ above_none (g x).0 xs (first_T (below_all R (g x).0 (map g xs)) _ h) in
      let here : one_if (eq_by_cmp R k (g x).0) ≡ 1 = ap one_if is in
      omega (arith, here, rest)
  more k x xs h false is later =
      let here : one_if (eq_by_cmp R k (g x).0) ≡ 0 = ap one_if is in
      omega (arith, here, later)

  at_most_one : (k : K) (xs : List X) → T (is_sorted R (map g xs)) → count k xs ≤ 1
  unfolding total
  at_most_one k [] h = omega arith
  at_most_one k (x ∷ xs) h = more k x xs h (eq_by_cmp R k (g x).0) refl (at_most_one k xs (second_T (below_all R (g x).0 (map g xs)) _ h))

  none_all : (k : K) (xs : List X) → count k xs ≡ 0 → AllByRecursion (λ x. k ≢ (g x).0) xs
  unfolding total
  none_all k [] h = tt
  none_all k (x ∷ xs) h =
      let here = none_if (eq_by_cmp R k (g x).0) (count k xs) h in
      ((λ same. true≢false (sym (ap is_eq (tied_itself o k)) ∙ ap (eq_by_cmp R k) same ∙ here)), none_all k xs (omega (arith, h)))

  apart_by_count : (xs : List X) → ((k : K) → count k xs ≤ 1) → IsAscending (λ a b. (g a).0 ≢ (g b).0) xs
  unfolding total
  apart_by_count [] h = tt
  apart_by_count (x ∷ xs) h =
      let here : one_if (eq_by_cmp R (g x).0 (g x).0) ≡ 1 = ap one_if (ap is_eq (tied_itself o (g x).0)) in
      let it = h (g x).0 in
      (none_all (g x).0 xs (omega (arith, here, it)), apart_by_count xs (λ k. let all = h k in omega (arith, all)))

  -- what is listed in an order in which keys rise has keys that differ, in any order
  pub apart_as_listed : (xs ys : List X) → IsPermutation xs ys → T (is_sorted R (map g ys)) → IsAscending (λ a b. (g a).0 ≢ (g b).0) xs
  apart_as_listed xs ys s sorted = apart_by_count xs (λ k. subst (λ (n : ℕ). n ≤ 1) (sym (sum_is (λ x. one_if (eq_by_cmp R k (g x).0)) ys) ∙ sum_by-IsPermutation (λ x. one_if (eq_by_cmp R k (g x).0)) xs ys s ∙ sum_is (λ x. one_if (eq_by_cmp R k (g x).0)) xs) (at_most_one k ys sorted))
