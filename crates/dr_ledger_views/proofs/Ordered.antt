-- Lists of entries with keys that differ, and the map that they are of.
use Rattle.std.proofs.Common.{◌≡◌, inl, inr, ℕ, zero, suc, ◌+◌, ◌<◌, Bool, true, false, cond, ◌&&◌, T, List, [], ◌∷◌, map, filter, length, Contains, All, get_or, Option, Some, None, refl, sym, ap, subst, ◌∙◌, arith, true≢false}
use Rattle.std.specs.declared.cmp.Ordering.{Ordering}
use Rattle.std.specs.declared.cmp.Ordering.TheVariants.{Less, Equal, Greater}
use Rattle.std.specs.Ordering.{eq_by_cmp, is_eq, is_lt, ordering_reverse}
use Rattle.std.specs.Cmp.{IsTotalOrder}
use Rattle.std.specs.FinMap.{entries, entries-insert, entries_sorted, find, from_entries, get-entries, get-from_entries, is_sorted, IsAntisymmetric}
use Rattle.std.specs.FinMap.Entries.{below_all, put, by_order, same_entries}
use Rattle.std.specs.List.{AllByRecursion, IsDistinct}
use Rattle.std.specs.List.Sorted.{IsPermutation, IsSorted, IsStrictlySortedBy}
use Rattle.std.proofs.lemmas.Cmp.{eq_by_cmp_equiv, tied_itself}
use Rattle.std.proofs.Math.ListN.{get_or-map}
use Rattle.std.proofs.lemmas.List.{length-map}
use Rattle.std.proofs.lemmas.List.Sorted.{Contains-permutation, IsPermutation-cons, IsPermutation-map, IsPermutation-middle, IsPermutation-refl, IsPermutation-sym, IsPermutation-trans}
use Rattle.std.proofs.lemmas.Map.Keys.{apart_from_distinct, IsDistinct-head, IsDistinct-IsPermutation, IsDistinct-tail, sorted_from_all_adjacent, sorted_head, sorted_tail}
use Rattle.dr_ledger_views.proofs.Asked.{Has}

-- ---- lists

pub has_contains : {X : Type 0} (xs : List X) (x : X) → Has xs x → Contains xs x
has_contains [] x h = absurd h
has_contains (y ∷ ys) x (inl same) = (0, omega arith, sym same)
has_contains (y ∷ ys) x (inr later) = let it = has_contains ys x later in (suc it.0, omega (arith, it.1), it.2)

pub contains_has : {X : Type 0} (xs : List X) (x : X) → Contains xs x → Has xs x
contains_has [] x h = absurd (omega (arith, h.1))
contains_has (y ∷ ys) x (zero, low, same) = inl (sym same)
contains_has (y ∷ ys) x (suc k, low, same) = inr (contains_has ys x (k, omega (arith, low), same))

pub has_permuted : {X : Type 0} (xs ys : List X) (x : X) → IsPermutation xs ys → Has xs x → Has ys x
has_permuted xs ys x same h = contains_has ys x (Contains-permutation xs ys x same (has_contains xs x h))

module _ {X : Type 0} (p : X → Bool) where
  pub has_filtered : (xs : List X) (x : X) → Has xs x → p x ≡ true → Has (filter p xs) x
  has_filtered [] x h passes = absurd h
  has_filtered (y ∷ ys) x (inl same) passes = subst (λ b. Has (cond b (y ∷ filter p ys) (filter p ys)) x) (sym (ap p (sym same) ∙ passes)) (inl same)
  has_filtered (y ∷ ys) x (inr later) passes = go (p y) (has_filtered ys x later passes)
    where
      go : (b : Bool) → Has (filter p ys) x → Has (cond b (y ∷ filter p ys) (filter p ys)) x
      go true h = inr h
      go false h = h

  pub filtered_has : (xs : List X) (x : X) → Has (filter p xs) x → Has xs x × (p x ≡ true)
  filtered_has [] x h = absurd h
  filtered_has (y ∷ ys) x h = go (p y) refl h (λ later. filtered_has ys x later)
    where
      go : (b : Bool) → p y ≡ b → Has (cond b (y ∷ filter p ys) (filter p ys)) x → (Has (filter p ys) x → Has ys x × (p x ≡ true)) → Has (y ∷ ys) x × (p x ≡ true)
      go true is (inl same) more = (inl same, ap p same ∙ is)
      go true is (inr later) more = let it = more later in (inr it.0, it.1)
      go false is h more = let it = more h in (inr it.0, it.1)

-- ---- entries with keys that differ

abbrev pub keys_of : {K V : Type 0} → List (K × V) → List K
keys_of es = map (λ e. e.0) es

abbrev pub AreApart : {K V : Type 0} → (K → K → Ordering) → List (K × V) → Type 0
AreApart R es = IsDistinct (eq_by_cmp R) (keys_of es)

inside : {X : Type 0} (x y : X) → Some x ≡ Some y → x ≡ y
inside x y e = cc

same_option : {X : Type 0} (a b : Option X) → ((x : X) → a ≡ Some x → b ≡ Some x) → ((x : X) → b ≡ Some x → a ≡ Some x) → a ≡ b
same_option None None f g = refl
same_option None (Some x) f g = g x refl
same_option (Some x) b f g = sym (f x refl)

equal_is : (o : Ordering) → is_eq o ≡ true → o ≡ Equal
equal_is Less h = absurd (true≢false (sym h))
equal_is Equal h = refl
equal_is Greater h = absurd (true≢false (sym h))

less_T : (o : Ordering) → o ≡ Less → T (is_lt o)
less_T o e = subst (λ r. T (is_lt r)) (sym e) tt

both_T : (a b : Bool) → T a → T b → T (a && b)
both_T true b s t = t
both_T false b s t = absurd s

is_less : (a b : Ordering) → b ≡ ordering_reverse a → is_eq a ≡ false → is_lt b ≡ false → a ≡ Less
is_less Less b back other not = refl
is_less Equal b back other not = absurd (true≢false other)
is_less Greater b back other not = absurd (true≢false (sym (ap is_lt back) ∙ not))

tail_T : (a b : Bool) → T (a && b) → T b
tail_T true b h = h
tail_T false b h = absurd h

head_T : (a b : Bool) → T (a && b) → T a
head_T true b h = tt
head_T false b h = absurd h

module _ {K : Type 0} {R : K → K → Ordering} (total : IsTotalOrder R) (exact : IsAntisymmetric R) where
  itself : (k : K) → eq_by_cmp R k k ≡ true
  itself k = ap is_eq (tied_itself total k)

  same_key : (a b : K) → eq_by_cmp R a b ≡ true → a ≡ b
  same_key a b h = exact a b (equal_is _ h)

module _ {K V : Type 0} {R : K → K → Ordering} (total : IsTotalOrder R) (exact : IsAntisymmetric R) where
  pub found_has : (es : List (K × V)) (k : K) (v : V) → find R k es ≡ Some v → Has es (k, v)
  found_has [] k v h = absurd cc
  found_has (f ∷ es) k v h = go (eq_by_cmp R k f.0) refl h (λ later. found_has es k v later)
    where
      go : (b : Bool) → eq_by_cmp R k f.0 ≡ b → cond b (Some f.1) (find R k es) ≡ Some v → (find R k es ≡ Some v → Has es (k, v)) → Has (f ∷ es) (k, v)
      go true is found later = inl (λ i. (same_key total exact k f.0 is i, sym (inside f.1 v found) i))
      go false is found later = inr (later found)

  not_among : (k : K) (es : List (K × V)) (e : K × V) → AllByRecursion (λ y. eq_by_cmp R k y ≡ false) (keys_of es) → Has es e → eq_by_cmp R k e.0 ≡ false
  not_among k [] e all h = absurd h
  not_among k (f ∷ es) e all (inl same) = ap (λ (x : K × V). eq_by_cmp R k x.0) same ∙ all.0
  not_among k (f ∷ es) e all (inr later) = not_among k es e all.1 later

  pub has_found : (es : List (K × V)) (k : K) (v : V) → AreApart R es → Has es (k, v) → find R k es ≡ Some v
  has_found [] k v apart h = absurd h
  has_found (f ∷ es) k v apart (inl same) =
      ap (λ b. cond b (Some f.1) (find R k es)) (ap (λ (x : K × V). eq_by_cmp R k x.0) (sym same) ∙ itself total exact k) ∙ ap (λ (x : K × V). Some x.1) (sym same)
  has_found (f ∷ es) k v apart (inr later) = go (eq_by_cmp R k f.0) refl (has_found es k v (IsDistinct-tail (eq_by_cmp R) f.0 (keys_of es) apart) later)
    where
      go : (b : Bool) → eq_by_cmp R k f.0 ≡ b → find R k es ≡ Some v → cond b (Some f.1) (find R k es) ≡ Some v
      go true is found =
          absurd (true≢false (sym (itself total exact k) ∙ ap (λ x. eq_by_cmp R x k) (same_key total exact k f.0 is) ∙ not_among f.0 es (k, v) (IsDistinct-head (eq_by_cmp R) f.0 (keys_of es) apart) later))
      go false is found = found

  -- a rising list has keys that differ
  below_apart : (k : K) (es : List (K × V)) → T (below_all R k es) → AllByRecursion (λ y. eq_by_cmp R k y ≡ false) (keys_of es)
  below_apart k [] h = tt
  below_apart k (e ∷ es) h = (first (is_lt (R k e.0)) refl h, below_apart k es (second (is_lt (R k e.0)) h))
    where
      not_equal : (o : Ordering) → is_lt o ≡ true → is_eq o ≡ false
      not_equal Less h = refl
      not_equal Equal h = absurd (true≢false (sym h))
      not_equal Greater h = absurd (true≢false (sym h))

      first : (b : Bool) → is_lt (R k e.0) ≡ b → T (b && below_all R k es) → eq_by_cmp R k e.0 ≡ false
      first true is h = not_equal (R k e.0) is
      first false is h = absurd h

      second : (b : Bool) → T (b && below_all R k es) → T (below_all R k es)
      second true h = h
      second false h = absurd h

  pub sorted_apart : (es : List (K × V)) → T (is_sorted R es) → AreApart R es
  unfolding IsDistinct
  sorted_apart [] h = tt
  sorted_apart (e ∷ es) h = (below_apart e.0 es (head_T (below_all R e.0 es) _ h), sorted_apart es (tail_T (below_all R e.0 es) _ h))

  -- keys that rise, as a list of entries in order
  all_below : (k : K) (es : List (K × V)) → AllByRecursion (λ y. R k y ≡ Less) (keys_of es) → T (below_all R k es)
  all_below k [] h = tt
  all_below k (e ∷ es) h = both_T (is_lt (R k e.0)) _ (less_T _ h.0) (all_below k es h.1)

  rising : (es : List (K × V)) → IsStrictlySortedBy R (keys_of es) → T (is_sorted R es)
  rising [] h = tt
  rising (e ∷ es) h = both_T (below_all R e.0 es) _ (all_below e.0 es (sorted_head R e.0 (keys_of es) h)) (rising es (sorted_tail R e.0 (keys_of es) h))

  -- a filter keeps the order
  below_filtered : (p : K × V → Bool) (k : K) (es : List (K × V)) → T (below_all R k es) → T (below_all R k (filter p es))
  below_filtered p k [] h = tt
  below_filtered p k (e ∷ es) h = go (p e) (below_filtered p k es (tail_T (is_lt (R k e.0)) _ h))
    where
      go : (b : Bool) → T (below_all R k (filter p es)) → T (below_all R k (cond b (e ∷ filter p es) (filter p es)))
      go true later = both_T (is_lt (R k e.0)) _ (head_T (is_lt (R k e.0)) _ h) later
      go false later = later

  pub sorted_filtered : (p : K × V → Bool) (es : List (K × V)) → T (is_sorted R es) → T (is_sorted R (filter p es))
  sorted_filtered p [] h = tt
  sorted_filtered p (e ∷ es) h = go (p e) (sorted_filtered p es (tail_T (below_all R e.0 es) _ h))
    where
      go : (b : Bool) → T (is_sorted R (filter p es)) → T (is_sorted R (cond b (e ∷ filter p es) (filter p es)))
      go true later = both_T (below_all R e.0 (filter p es)) _ (below_filtered p e.0 es (head_T (below_all R e.0 es) _ h)) later
      go false later = later

  -- and so that keys differ
  apart_filtered : (p : K × V → Bool) (es : List (K × V)) → AreApart R es → AreApart R (filter p es)
  unfolding IsDistinct
  apart_filtered p [] h = tt
  apart_filtered p (e ∷ es) h = go (p e) (apart_filtered p es h.1)
    where
      others : (xs : List (K × V)) → AllByRecursion (λ y. eq_by_cmp R e.0 y ≡ false) (keys_of xs) → AllByRecursion (λ y. eq_by_cmp R e.0 y ≡ false) (keys_of (filter p xs))
      others [] h = tt
      others (x ∷ xs) h = step (p x) (others xs h.1)
        where
          step : (b : Bool) → AllByRecursion (λ y. eq_by_cmp R e.0 y ≡ false) (keys_of (filter p xs)) → AllByRecursion (λ y. eq_by_cmp R e.0 y ≡ false) (keys_of (cond b (x ∷ filter p xs) (filter p xs)))
          step true more = (h.0, more)
          step false more = more

      go : (b : Bool) → IsDistinct (eq_by_cmp R) (keys_of (filter p es)) → IsDistinct (eq_by_cmp R) (keys_of (cond b (e ∷ filter p es) (filter p es)))
      go true later = (others es h.0, later)
      go false later = later

  -- the entries of the map of a list whose keys differ are that list, in another order
  put_permuted : (k : K) (v : V) (es : List (K × V)) → find R k es ≡ None → IsPermutation ((k, v) ∷ es) (put R k v es)
  put_permuted k v [] none = IsPermutation-refl ((k, v) ∷ [])
  put_permuted k v (e ∷ es) none = go (R k e.0) refl none (λ h. put_permuted k v es h)
    where
      go : (o : Ordering) → R k e.0 ≡ o → cond (is_eq o) (Some e.1) (find R k es) ≡ None → (find R k es ≡ None → IsPermutation ((k, v) ∷ es) (put R k v es))
          → IsPermutation ((k, v) ∷ e ∷ es) (by_order o ((k, v) ∷ e ∷ es) ((e.0, v) ∷ es) (e ∷ put R k v es))
      go Less is h later = IsPermutation-refl _
      go Equal is h later = absurd cc
      go Greater is h later = IsPermutation-trans _ _ _ (IsPermutation-sym _ _ (IsPermutation-middle (e ∷ []) (k, v) es)) (IsPermutation-cons e _ _ (later h))

  none_found : (k : K) (es : List (K × V)) → AllByRecursion (λ y. eq_by_cmp R k y ≡ false) (keys_of es) → find R k es ≡ None
  none_found k [] h = refl
  none_found k (e ∷ es) h = ap (λ b. cond b (Some e.1) (find R k es)) h.0 ∙ none_found k es h.1

  pub entries_permuted : (es : List (K × V)) → AreApart R es → IsPermutation es (entries (from_entries {R = R} es))
  entries_permuted [] apart = go (entries (from_entries {X = V} {R = R} [])) (λ q. sym (get-entries (from_entries {X = V} {R = R} []) q) ∙ get-from_entries total [] q)
    where
      go : (xs : List (K × V)) → ((q : K) → find R q xs ≡ None) → IsPermutation [] xs
      go [] h = IsPermutation-refl []
      go (x ∷ xs) h = absurd (let e : Some x.1 ≡ None = sym (ap (λ b. cond b (Some x.1) (find R x.0 xs)) (itself total exact x.0)) ∙ h x.0 in cc)
  entries_permuted (e ∷ es) apart =
      let later = entries_permuted es (IsDistinct-tail (eq_by_cmp R) e.0 (keys_of es) apart) in
      let none : find R e.0 (entries (from_entries {R = R} es)) ≡ None =
      sym (get-entries (from_entries {R = R} es) e.0) ∙ get-from_entries total es e.0 ∙ none_found e.0 es (IsDistinct-head (eq_by_cmp R) e.0 (keys_of es) apart) in
      subst (IsPermutation (e ∷ es)) (sym (entries-insert total (from_entries {R = R} es) e.0 e.1))
      (IsPermutation-trans _ _ _ (IsPermutation-cons e es _ later) (put_permuted e.0 e.1 (entries (from_entries {R = R} es)) none))

  -- two rising lists of the same entries are one
  pub one_list : (xs ys : List (K × V)) → T (is_sorted R xs) → T (is_sorted R ys) → ((e : K × V) → Has xs e → Has ys e) → ((e : K × V) → Has ys e → Has xs e) → xs ≡ ys
  one_list xs ys up_x up_y to back = same_entries R total exact xs ys up_x up_y (λ q. same_option (find R q xs) (find R q ys)
      (λ v h. has_found ys q v (sorted_apart ys up_y) (to (q, v) (found_has xs q v h)))
      (λ v h. has_found xs q v (sorted_apart xs up_x) (back (q, v) (found_has ys q v h))))

  no_keys : {Y : Type 0} (sh : Y → K × V) (zs : List Y) → [] ≡ zs → IsStrictlySortedBy R (keys_of (map sh zs))
  unfolding IsStrictlySortedBy
  no_keys sh [] e = tt
  no_keys sh (z ∷ zs) e = absurd cc

  -- what an order by keys shows of those entries that pass a test
  pub in_order : {Y : Type 0} (cmp : Y → Y → Ordering) (sh : Y → K × V) (Good : Y → Type 0) (agree : (a b : Y) → Good a → Good b → is_lt (cmp a b) ≡ is_lt (R (sh a).0 (sh b).0))
      (p : K × V → Bool) (es : List (K × V)) (apart : AreApart R es) (os : List Y)
      → IsPermutation (filter p es) (map sh os) → All Good os → IsSorted cmp os
      → map sh os ≡ filter p (entries (from_entries {R = R} es))
  in_order {Y} cmp sh Good agree p es apart os same good up =
      let whole = entries (from_entries {R = R} es) in
      let ks = keys_of (map sh os) in
      let distinct : IsDistinct (eq_by_cmp R) ks =
      IsDistinct-IsPermutation (eq_by_cmp R) (eq_by_cmp_equiv total).symm (keys_of (filter p es)) ks (IsPermutation-map (λ (e : K × V). e.0) (filter p es) (map sh os) same) (apart_filtered p es apart) in
      one_list (map sh os) (filter p whole) (rising (map sh os) (strict distinct)) (sorted_filtered p whole (entries_sorted (from_entries {R = R} es)))
      (λ e h.
      let it = filtered_has p es e (has_permuted (map sh os) (filter p es) e (IsPermutation-sym _ _ same) h) in
      has_filtered p whole e (has_permuted es whole e (entries_permuted es apart) it.0) it.1)
      (λ e h.
      let it = filtered_has p whole e h in
      has_permuted (filter p es) (map sh os) e same (has_filtered p es e (has_permuted whole es e (IsPermutation-sym _ _ (entries_permuted es apart)) it.0) it.1))
    where
      key_at : (y : Y) (k : ℕ) → get_or (keys_of (map sh os)) k (sh y).0 ≡ (sh (get_or os k y)).0
      key_at y k = get_or-map (λ (e : K × V). e.0) (map sh os) k (sh y) ∙ ap (λ (e : K × V). e.0) (get_or-map sh os k y)

      long : length (keys_of (map sh os)) ≡ length os
      long = length-map (map sh os) (λ (e : K × V). e.0) ∙ length-map os sh

      adjacent : IsDistinct (eq_by_cmp R) (keys_of (map sh os)) → (y : Y) (k : ℕ) → k + 1 < length (keys_of (map sh os))
          → R (get_or (keys_of (map sh os)) k (sh y).0) (get_or (keys_of (map sh os)) (k + 1) (sh y).0) ≡ Less
      adjacent distinct y k lt =
          let a = get_or os k y in
          let b = get_or os (k + 1) y in
          let in_a : k < length os = omega (arith, lt, long) in
          let in_b : k + 1 < length os = omega (arith, lt, long) in
          let not_less : is_lt (R (sh b).0 (sh a).0) ≡ false = sym (agree b a (good (k + 1) y in_b) (good k y in_a)) ∙ up k y (omega arith) in_b in
          let other : is_eq (R (sh a).0 (sh b).0) ≡ false =
          sym (λ i. eq_by_cmp R (key_at y k i) (key_at y (k + 1) i)) ∙ apart_from_distinct (eq_by_cmp R) (keys_of (map sh os)) k (k + 1) (sh y).0 distinct (omega arith) lt in
          let P : K → K → Type 0 = λ x z. R x z ≡ Less in
          subst (λ z. P (get_or (keys_of (map sh os)) k (sh y).0) z) (sym (key_at y (k + 1)))
          (subst (λ x. P x (sh b).0) (sym (key_at y k)) (is_less (R (sh a).0 (sh b).0) (R (sh b).0 (sh a).0) (total.antisymm (sh b).0 (sh a).0) other not_less))

      strict : IsDistinct (eq_by_cmp R) (keys_of (map sh os)) → IsStrictlySortedBy R (keys_of (map sh os))
      strict distinct = go os refl
        where
          go : (ys : List Y) → ys ≡ os → IsStrictlySortedBy R (keys_of (map sh os))
          go [] none = no_keys sh os none
          go (y ∷ ys) some = sorted_from_all_adjacent total (keys_of (map sh os)) (sh y).0 (adjacent distinct y)
