-- Lists whose keys rise, and the maps and sets that they are of.
use Rattle.std.proofs.Common.{◌≡◌, ◌≢◌, ℕ, suc, ◌+◌, List, [], ◌∷◌, map, flat_map, length, slice_index_or, Bool, true, false, ◌&&◌, cond, T, Option, Some, None, refl, sym, ap, subst, ◌∙◌, arith, true≢false}
use Rattle.std.specs.declared.cmp.Ordering.{Ordering}
use Rattle.std.specs.declared.cmp.Ordering.TheVariants.{Less, Equal, Greater}
use Rattle.std.specs.Ordering.{eq_by_cmp, is_eq, is_lt}
use Rattle.std.specs.Cmp.{IsTotalOrder}
use Rattle.std.specs.FinMap.{find, entries, from_entries, entries_sorted, get-entries, get-from_entries, IsAntisymmetric}
use Rattle.std.specs.FinMap.Entries.{is_sorted, below_all, same_entries}
use Rattle.std.specs.List.{AllByRecursion, AllAdjacentBelow, IsAllAdjacentAnswer}
use Rattle.std.specs.List.Sorted.{IsPermutation, IsStrictlySortedBy}
use Rattle.std.proofs.lemmas.Cmp.{tied_itself}
use Rattle.std.proofs.lemmas.List.Sorted.{All-permutation, IsPermutation-sym}
use Rattle.std.proofs.lemmas.List.Elements.{All-from_recursion, recursion_from_All}
use Rattle.sqlite.specs.Tree.{IsAscending}
use Rattle.sqlite_trees.proofs.ListLemmas.{all_weaker}
use Rattle.sqlite_trees.proofs.TreeLemmas.{not_true}
use Rattle.dr_store_writes.proofs.Maps as maps
use Rattle.dr_store_writes.proofs.Keys.{all_both}

-- ---- keys that rise

pub both_T : (a b : Bool) → T a → T b → T (a && b)
both_T true b s t = t
both_T false b s t = absurd s

less_T : (o : Ordering) → o ≡ Less → T (is_lt o)
less_T o e = subst (λ (p : Ordering). T (is_lt p)) (sym e) tt

pub its_less : (o : Ordering) → T (is_lt o) → o ≡ Less
its_less Less h = refl
its_less Equal h = absurd h
its_less Greater h = absurd h

said_less : (o : Ordering) → true ≡ is_lt o → o ≡ Less
said_less Less h = refl
said_less Equal h = absurd cc
said_less Greater h = absurd cc

pub first_T : (a b : Bool) → T (a && b) → T a
first_T true b h = tt
first_T false b h = absurd h

pub second_T : (a b : Bool) → T (a && b) → T b
second_T true b h = h
second_T false b h = absurd h

module _ {K : Type 0} {R : K → K → Ordering} (o : IsTotalOrder R) where
  -- keys that rise from each to the next do so from each to all later ones
  pub keys_rise : (ks : List K) → AllAdjacentBelow (λ x y. true ≡ is_lt (R x y)) ks (length ks) → IsStrictlySortedBy R ks
  unfolding IsStrictlySortedBy
  keys_rise [] h = tt
  keys_rise (k ∷ []) h = (tt, tt)
  keys_rise (k ∷ l ∷ ks) h =
      let rest : IsStrictlySortedBy R (l ∷ ks) = keys_rise (l ∷ ks) (λ n d below.
      subst (λ (m : ℕ). true ≡ is_lt (R (slice_index_or (l ∷ ks) n d) (slice_index_or (k ∷ l ∷ ks) m d))) {x = suc n + 1} {y = suc (n + 1)} (omega arith) (h (suc n) d (omega (arith, below)))) in
      let less : R k l ≡ Less = said_less _ (h 0 k (omega arith)) in
      ((less, all_weaker (λ y. R l y ≡ Less) (λ y. R k y ≡ Less) (λ y low. o.trans k l y less low) ks rest.0), rest)

module _ {K V : Type 0} {R : K → K → Ordering} (o : IsTotalOrder R) where
  below_chain : (x y : K) → R x y ≡ Less → (es : List (K × V)) → T (below_all R y es) → T (below_all R x es)
  below_chain x y less [] h = tt
  below_chain x y less (e ∷ es) h =
      both_T (is_lt (R x e.0)) _ (less_T _ (o.trans x y e.0 less (its_less _ (first_T (is_lt (R y e.0)) _ h)))) (below_chain x y less es (second_T (is_lt (R y e.0)) _ h))

  pub rises : (es : List (K × V)) → AllAdjacentBelow (λ x y. true ≡ is_lt (R x.0 y.0)) es (length es) → T (is_sorted R es)
  rises [] h = tt
  rises (e ∷ []) h = tt
  rises (e ∷ f ∷ es) h =
      let rest : T (is_sorted R (f ∷ es)) = rises (f ∷ es) (λ k d below.
      subst (λ (n : ℕ). true ≡ is_lt (R (slice_index_or (f ∷ es) k d).0 (slice_index_or (e ∷ f ∷ es) n d).0)) {x = suc k + 1} {y = suc (k + 1)} (omega arith) (h (suc k) d (omega (arith, below)))) in
      let less : R e.0 f.0 ≡ Less = said_less _ (h 0 e (omega arith)) in
      both_T (below_all R e.0 (f ∷ es)) _ (both_T (is_lt (R e.0 f.0)) _ (less_T _ less) (below_chain e.0 f.0 less es (first_T (below_all R f.0 es) _ rest))) rest

-- ---- one entry for each row

pub permute : {X : Type 0} (P : X → Type 0) (xs ys : List X) → IsPermutation xs ys → AllByRecursion P xs → AllByRecursion P ys
permute P xs ys s h = recursion_from_All P ys (All-permutation P xs ys s (All-from_recursion P xs h))

all_map : {X Y : Type 0} (f : X → Y) (P : Y → Type 0) (xs : List X) → AllByRecursion (λ x. P (f x)) xs → AllByRecursion P (map f xs)
all_map f P [] h = tt
all_map f P (x ∷ xs) h = (h.0, all_map f P xs h.1)

pub every : {X Y : Type 0} (f : X → Y) (xs : List X) → flat_map (λ x. f x ∷ []) xs ≡ map f xs
every f [] = refl
every f (x ∷ xs) = ap (λ ys. f x ∷ ys) (every f xs)

module _ {K V X : Type 0} {R : K → K → Ordering} (o : IsTotalOrder R) (exact : IsAntisymmetric R) (g : X → K × V) where
  same_key : (a b : K) → eq_by_cmp R a b ≡ true → a ≡ b
  same_key a b h = exact a b (maps.equal (R a b) h)

  itself : (a : K) → eq_by_cmp R a a ≡ true
  itself a = ap is_eq (tied_itself o a)

  -- each is found
  abbrev AreFound : List (K × V) → List X → Type 0
  AreFound es = AllByRecursion (λ x. find R (g x).0 es ≡ Some (g x).1)

  apart_found : (xs : List X) → IsAscending (λ a b. (g a).0 ≢ (g b).0) xs → AreFound (map g xs) xs
  apart_found [] h = tt
  apart_found (x ∷ xs) h = (
    ap (λ b. cond b (Some (g x).1) (find R (g x).0 (map g xs))) (itself (g x).0),
    all_both _ _ (λ y. find R (g y).0 (map g (x ∷ xs)) ≡ Some (g y).1)
        (λ y apart there. ap (λ b. cond b (Some (g x).1) (find R (g y).0 (map g xs))) (not_true _ (λ t. apart (sym (same_key _ _ t)))) ∙ there) xs h.0 (apart_found xs h.1),
  )

  found_in : (es : List (K × V)) (xs : List X) → AreFound es xs → (q : K) (v : V) → find R q (map g xs) ≡ Some v → find R q es ≡ Some v
  found_in es [] all q v h = absurd cc
  found_in es (x ∷ xs) all q v h = go (eq_by_cmp R q (g x).0) refl h (found_in es xs all.1 q v)
    where
      go : (b : Bool) → eq_by_cmp R q (g x).0 ≡ b → cond b (Some (g x).1) (find R q (map g xs)) ≡ Some v → (find R q (map g xs) ≡ Some v → find R q es ≡ Some v) → find R q es ≡ Some v
      go true is h later = ap (λ k. find R k es) (same_key q (g x).0 is) ∙ all.0 ∙ h
      go false is h later = later h

  none_in : (xs : List X) (q : K) → find R q (map g xs) ≡ None → AllByRecursion (λ x. eq_by_cmp R q (g x).0 ≡ false) xs
  none_in [] q h = tt
  none_in (x ∷ xs) q h = (maps.no_value (eq_by_cmp R q (g x).0) _ _ h, none_in xs q (maps.last_of (eq_by_cmp R q (g x).0) _ _ h))

  none_of : (xs : List X) (q : K) → AllByRecursion (λ x. eq_by_cmp R q (g x).0 ≡ false) xs → find R q (map g xs) ≡ None
  none_of [] q h = refl
  none_of (x ∷ xs) q h = ap (λ b. cond b (Some (g x).1) (find R q (map g xs))) h.0 ∙ none_of xs q h.1

  -- what is found is the same in any order, where the keys differ
  same_found : (xs ys : List X) → IsAscending (λ a b. (g a).0 ≢ (g b).0) xs → IsPermutation xs ys → (q : K) → find R q (map g ys) ≡ find R q (map g xs)
  same_found xs ys apart s q = go (find R q (map g ys)) refl
    where
      go : (r : Option V) → find R q (map g ys) ≡ r → find R q (map g ys) ≡ find R q (map g xs)
      go None h = h ∙ sym (none_of xs q (permute _ ys xs (IsPermutation-sym xs ys s) (none_in ys q h)))
      go (Some v) h = h ∙ sym (found_in (map g xs) ys (permute _ xs ys s (apart_found xs apart)) q v h)

  -- in the order of the keys it is the map's list
  pub all_entries : (xs ys : List X) → IsAscending (λ a b. (g a).0 ≢ (g b).0) xs → IsPermutation xs ys → T (is_sorted R (map g ys)) → map g ys ≡ entries (from_entries {R = R} (map g xs))
  all_entries xs ys apart s sorted =
      same_entries R o exact (map g ys) (entries (from_entries {R = R} (map g xs))) sorted (entries_sorted (from_entries {R = R} (map g xs)))
      (λ q. same_found xs ys apart s q ∙ sym (sym (get-entries (from_entries {R = R} (map g xs)) q) ∙ get-from_entries o (map g xs) q))

pub adjacent : {X : Type 0} (r : Bool) (E : X → X → Bool → Type 0) (xs : List X) → r ≡ true → IsAllAdjacentAnswer E xs r → AllAdjacentBelow (λ x y. E x y true) xs (length xs)
adjacent true E xs is h = h
adjacent false E xs is h = absurd (true≢false (sym is))
