-- What a tree of sides is as a map.
use Rattle.std.proofs.Common.{◌≡◌, T, ℕ, ◌+◌, ◌^◌, ◌<◌, ◌≤◌, Bool, true, false, cond, ◌&&◌, List, [], ◌∷◌, ◌++◌, map as mapped, length, filter, Option, None, Some, Bor, Fits, w64, refl, sym, ap, subst, ◌∙◌, arith}
use Rattle.std.specs.declared.cmp.Ordering.{Ordering}
use Rattle.std.specs.declared.cmp.Ordering.TheVariants.{Less}
use Rattle.std.specs.Ordering.{nat_cmp, eq_by_cmp, is_lt}
use Rattle.std.specs.Cmp.{nat_cmp_total, eq_by_cmp_equiv}
use Rattle.std.specs.List.{AllByRecursion}
use Rattle.std.specs.List.Sorted.{IsStrictlySortedBy}
use Rattle.std.specs.Map.{keys_of, lookup}
use Rattle.std.specs.Map.Iter.{deref_pair}
use Rattle.std.specs.BTreeMap as tree
use Rattle.std.specs.BTreeMap.{BTreeMap, is_at}
use Rattle.std.specs.FinMap as map
use Rattle.std.specs.FinMap.{find, is_sorted}
use Rattle.std.specs.FinMap.Entries.{below_all}
use Rattle.std.proofs.lemmas.Map.Keys.{sorted_head, sorted_tail}
use Rattle.dr_node.specs.declared.links.LinkSide.{LinkSide}
use Rattle.dr_node.specs.Sides.{Sides, is_other, others}

abbrev pub Tree : Type 0
Tree = BTreeMap ℕ LinkSide

abbrev pub seen : Tree → Sides
seen m = map.from_entries m.entries

find_lookup : (q : ℕ) (es : List (ℕ × LinkSide)) → find nat_cmp q es ≡ lookup (is_at (nat_cmp q)) es
find_lookup q [] = refl
find_lookup q (e ∷ es) = ap (cond (eq_by_cmp nat_cmp q e.0) (Some e.1)) (find_lookup q es)

pub seen_at : (m : Tree) (q : ℕ) → map.get (seen m) q ≡ tree.get nat_cmp m q
seen_at m q = map.get-from_entries nat_cmp_total m.entries q ∙ find_lookup q m.entries

-- ---- changes of one side

pub inserted : (m n : Tree) (k : ℕ) (w : LinkSide) → ((q : ℕ) → tree.get nat_cmp n q ≡ cond (is_at (nat_cmp k) q) (Some w) (tree.get nat_cmp m q)) → seen n ≡ map.insert (seen m) k w
inserted m n k w u = map.same_map nat_cmp_total map.nat_cmp-IsAntisymmetric (seen n) (map.insert (seen m) k w)
    (λ q. seen_at n q ∙ (u q ∙ (ap (λ b. cond b (Some w) (tree.get nat_cmp m q)) ((eq_by_cmp_equiv nat_cmp_total).symm k q)
    ∙ sym (map.get-insert nat_cmp_total (seen m) k w q ∙ ap (cond (eq_by_cmp nat_cmp q k) (Some w)) (seen_at m q)))))

pub removed : (m n : Tree) (k : ℕ) → ((q : ℕ) → tree.get nat_cmp n q ≡ cond (is_at (nat_cmp k) q) None (tree.get nat_cmp m q)) → seen n ≡ map.remove (seen m) k
removed m n k u = map.same_map nat_cmp_total map.nat_cmp-IsAntisymmetric (seen n) (map.remove (seen m) k)
    (λ q. seen_at n q ∙ (u q ∙ (ap (λ b. cond b None (tree.get nat_cmp m q)) ((eq_by_cmp_equiv nat_cmp_total).symm k q)
    ∙ sym (map.get-remove nat_cmp_total (seen m) k q ∙ ap (cond (eq_by_cmp nat_cmp q k) None) (seen_at m q)))))

-- ---- its entries

both : (a b : Bool) → T a → T b → T (a && b)
both true b h k = k
both false b h k = h

below : (k : ℕ) (es : List (ℕ × LinkSide)) → AllByRecursion (λ y. nat_cmp k y ≡ Less) (keys_of es) → T (below_all nat_cmp k es)
below k [] h = tt
below k (e ∷ es) h = both (is_lt (nat_cmp k e.0)) _ (subst (λ r. T (is_lt r)) (sym h.0) tt) (below k es h.1)

rising : (es : List (ℕ × LinkSide)) → IsStrictlySortedBy nat_cmp (keys_of es) → T (is_sorted nat_cmp es)
rising [] h = tt
rising (e ∷ es) h = both (below_all nat_cmp e.0 es) _ (below e.0 es (sorted_head nat_cmp e.0 (keys_of es) h)) (rising es (sorted_tail nat_cmp e.0 (keys_of es) h))

pub entries_seen : (m : Tree) → tree.IsOrdered nat_cmp m → map.entries (seen m) ≡ m.entries
entries_seen m order =
    let s = rising m.entries order in
    let same : seen m ≡ map.from_sorted m.entries =
    map.same_map nat_cmp_total map.nat_cmp-IsAntisymmetric (seen m) (map.from_sorted m.entries) (λ q. map.get-from_entries nat_cmp_total m.entries q ∙ sym (map.get-from_sorted nat_cmp m.entries q s)) in
    ap map.entries same ∙ map.entries-from_sorted nat_cmp m.entries s

-- ---- how many others were seen so far

abbrev pub Items : Type 0
Items = List (Bor ℕ × Bor LinkSide)

-- of these items
abbrev pub so_far : ℕ → Items → ℕ
so_far link items = length (filter (is_other link) (mapped deref_pair items))

one_more : (link : ℕ) (items : Items) (x : Bor ℕ × Bor LinkSide) (b : Bool) → is_other link (deref_pair x) ≡ b → so_far link (items ++ x ∷ []) ≡ so_far link items + cond b 1 0
one_more link [] x true e = ap (λ c. length (cond c (deref_pair x ∷ []) [])) e
one_more link [] x false e = ap (λ c. length (cond c (deref_pair x ∷ []) [])) e
one_more link (y ∷ items) x b e = by_case (is_other link (deref_pair y)) (one_more link items x b e)
  where
    by_case : (c : Bool) → so_far link (items ++ x ∷ []) ≡ so_far link items + cond b 1 0 →
        length (cond c (deref_pair y ∷ filter (is_other link) (mapped deref_pair (items ++ x ∷ []))) (filter (is_other link) (mapped deref_pair (items ++ x ∷ []))))
        ≡ length (cond c (deref_pair y ∷ filter (is_other link) (mapped deref_pair items)) (filter (is_other link) (mapped deref_pair items))) + cond b 1 0
    by_case true later = omega (arith, later)
    by_case false later = later

pub counted : (link : ℕ) (items : Items) (x : Bor ℕ × Bor LinkSide) (count : ℕ) → count ≡ so_far link items → is_other link (deref_pair x) ≡ true → count + 1 ≡ so_far link (items ++ x ∷ [])
counted link items x count same is = ap (λ n. n + 1) same ∙ sym (one_more link items x true is)

pub passed : (link : ℕ) (items : Items) (x : Bor ℕ × Bor LinkSide) (count : ℕ) → count ≡ so_far link items → is_other link (deref_pair x) ≡ false → count ≡ so_far link (items ++ x ∷ [])
passed link items x count same is = omega (arith, same, one_more link items x false is)

pub at_most : (link : ℕ) (items : Items) → so_far link items ≤ length items
at_most link [] = omega arith
at_most link (x ∷ items) = by_case (is_other link (deref_pair x)) (at_most link items)
  where
    by_case : (c : Bool) → so_far link items ≤ length items → length (cond c (deref_pair x ∷ filter (is_other link) (mapped deref_pair items)) (filter (is_other link) (mapped deref_pair items))) ≤ length (x ∷ items)
    by_case true later = omega (arith, later)
    by_case false later = omega (arith, later)

pub all_counted : (link : ℕ) (m : Tree) (items : Items) → tree.IsOrdered nat_cmp m → mapped deref_pair items ≡ m.entries → so_far link items ≡ others link (seen m)
all_counted link m items order all = ap (λ es. length (filter (is_other link) es)) (all ∙ sym (entries_seen m order))

pub room : (link : ℕ) (items : Items) (count all : ℕ) → count ≡ so_far link items → length items < all → all < 2 ^ 63 → Fits w64 (count + 1)
room link items count all same less fits = omega (arith, same, less, fits, at_most link items)
