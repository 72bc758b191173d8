-- What the ledger lists is what its book has.
use Rattle.std.proofs.Common.{◌≡◌, T, ℕ, Bool, true, false, cond, ◌&&◌, List, [], ◌∷◌, ◌++◌, map as mapped, All, None, Some, Decides, refl, sym, ap, subst, ◌∙◌, arith}
use Rattle.std.specs.declared.cmp.Ordering.{Ordering}
use Rattle.std.specs.declared.cmp.Ordering.TheVariants.{Less, Equal, Greater}
use Rattle.std.specs.Ordering.{eq_by_cmp, is_lt, ordering_then}
use Rattle.std.specs.List.{AllByRecursion}
use Rattle.std.specs.List.Sorted.{IsStrictlySortedBy}
use Rattle.std.specs.Map.{keys_of}
use Rattle.std.specs.BTreeMap as tree
use Rattle.std.specs.BTreeSet as sorted
use Rattle.std.specs.FinMap as map
use Rattle.std.specs.FinMap.{FinMap, find, is_sorted}
use Rattle.std.specs.FinMap.Entries.{below_all}
use Rattle.std.specs.FinSet as set
use Rattle.std.proofs.lemmas.List.Elements.{All-cons, All-head, All-tail}
use Rattle.std.proofs.lemmas.Map.Made.{is_member-Decides}
use Rattle.std.proofs.lemmas.Map.Views.{All-found, btree_set_contains_iff, tells_apart}
use Rattle.dr_base.specs.Texts.{Text, text_cmp}
use Rattle.dr_ledger.specs.declared.item.Instance.{Instance}
use Rattle.dr_ledger.specs.declared.item.Progress.{Progress}
use Rattle.dr_ledger.specs.Pairs.{Pair, pair_cmp}
use Rattle.dr_ledger.specs.Replies.{AreKept, Lists}
use Rattle.dr_ledger.proofs.Maps.{texts, text_pairs, ties_itself}
use Rattle.dr_ledger_memory.specs.declared.held.Held.{Held as Entry}
use Rattle.dr_ledger_memory.specs.declared.parts.Parts.{Parts}
use Rattle.dr_ledger_memory.specs.Contents.{all_rows, collected, content, kept_list, kept_mark, keys, one_more, own_rows}
use Rattle.dr_ledger_memory.specs.Entries.{OwnRow, instance_in}
use Rattle.dr_ledger_memory.specs.Changes.{at}
use Rattle.dr_ledger_memory.proofs.Lookups.{arrival_at, head_of, item_at, rest_of}
use Rattle.dr_ledger_memory.proofs.Whole.{t_left, t_right}

-- ---- arrivals
pub listed_arrivals : (p : Parts) (all : List Pair) → sorted.IsOrdered pair_cmp p.arrivals → all ≡ p.arrivals.keys → Lists pair_cmp (content p).arrivals all
listed_arrivals p all order is =
    let P : List Pair → Type 0 = λ keys. Lists pair_cmp (content p).arrivals keys in
    subst P (sym is) (record {
      ordered = order;
      each = λ x. (let w = btree_set_contains_iff text_pairs.total text_pairs.exact p.arrivals x in (λ h. arrival_at p x ∙ w.1 h, λ h. w.0 (sym (arrival_at p x) ∙ h)));
    })

-- ---- rows
both : (a b : Bool) → T a → T b → T (a && b)
both true b h k = k
both false b h k = h

lesser : (r : Ordering) → r ≡ Less → T (is_lt r)
lesser r e = subst (λ x. T (is_lt x)) (sym e) tt

then_less : (r s : Ordering) → r ≡ Less → ordering_then r s ≡ Less
then_less r s e = ap (λ x. ordering_then x s) e

equal_then : (r s : Ordering) → r ≡ Equal → ordering_then r s ≡ s
equal_then r s e = ap (λ x. ordering_then x s) e

same_text : (t : Text) → text_cmp t t ≡ Equal
same_text t = is_equal (text_cmp t t) (ties_itself texts t)
  where
    is_equal : (r : Ordering) → Rattle.std.specs.Ordering.is_eq r ≡ true → r ≡ Equal
    is_equal Less h = absurd (let f : ⊥ = cc in f)
    is_equal Equal h = refl
    is_equal Greater h = absurd (let f : ⊥ = cc in f)

-- below all of two lists
below_joined : (x : Pair) (xs ys : List (Pair × Progress)) → T (below_all pair_cmp x xs) → T (below_all pair_cmp x ys) → T (below_all pair_cmp x (xs ++ ys))
below_joined x [] ys h k = k
below_joined x (e ∷ xs) ys h k = both (is_lt (pair_cmp x e.0)) _ (t_left _ _ h) (below_joined x xs ys (t_right _ _ h) k)

-- rows of one uid are below each other as their destinations are
below_own : (uid dest : Text) (rows : List OwnRow) → T (below_all text_cmp dest rows) → T (below_all pair_cmp (uid, dest) (own_rows uid rows))
below_own uid dest [] h = tt
below_own uid dest (row ∷ rows) h =
    both (is_lt (pair_cmp (uid, dest) (uid, row.0))) _ (subst (λ r. T (is_lt r)) (sym (equal_then (text_cmp uid uid) (text_cmp dest row.0) (same_text uid))) (t_left _ _ h)) (below_own uid dest rows (t_right _ _ h))

-- rows of a uid are below those of a greater one
below_others : (uid dest other : Text) (rows : List OwnRow) → text_cmp uid other ≡ Less → T (below_all pair_cmp (uid, dest) (own_rows other rows))
below_others uid dest other [] h = tt
below_others uid dest other (row ∷ rows) h = both (is_lt (pair_cmp (uid, dest) (other, row.0))) _ (lesser _ (then_less (text_cmp uid other) (text_cmp dest row.0) h)) (below_others uid dest other rows h)

below_later : (uid dest : Text) (es : List (Text × Entry)) → AllByRecursion (λ y. text_cmp uid y ≡ Less) (keys_of es) → T (below_all pair_cmp (uid, dest) (all_rows es))
below_later uid dest [] h = tt
below_later uid dest (e ∷ es) h = below_joined (uid, dest) (own_rows e.0 e.1.rows.items) (all_rows es) (below_others uid dest e.0 e.1.rows.items h.0) (below_later uid dest es h.1)

joined_sorted : (uid : Text) (rows : List OwnRow) (es : List (Text × Entry)) → T (is_sorted text_cmp rows) → AllByRecursion (λ y. text_cmp uid y ≡ Less) (keys_of es) → T (is_sorted pair_cmp (all_rows es)) →
    T (is_sorted pair_cmp (own_rows uid rows ++ all_rows es))
joined_sorted uid [] es s h later = later
joined_sorted uid (row ∷ rows) es s h later =
    both (below_all pair_cmp (uid, row.0) (own_rows uid rows ++ all_rows es)) _
    (below_joined (uid, row.0) (own_rows uid rows) (all_rows es) (below_own uid row.0 rows (t_left _ _ s)) (below_later uid row.0 es h))
    (joined_sorted uid rows es (t_right _ _ s) h later)

rows_sorted : (es : List (Text × Entry)) → IsStrictlySortedBy text_cmp (keys_of es) → T (is_sorted pair_cmp (all_rows es))
rows_sorted [] h = tt
rows_sorted (e ∷ es) h = joined_sorted e.0 e.1.rows.items es e.1.ordered (head_of e es h) (rows_sorted es (rest_of e es h))

pub listed_rows : (p : Parts) (all : List (Pair × Progress)) → tree.IsOrdered text_cmp p.held → all ≡ all_rows p.held.entries → all ≡ map.entries (content p).rows
listed_rows p all order is =
    let rows = all_rows p.held.entries in
    let s = rows_sorted p.held.entries order in
    let same : map.from_entries {R = pair_cmp} rows ≡ map.from_sorted rows =
    map.same_map text_pairs.total text_pairs.exact (map.from_entries rows) (map.from_sorted rows) (λ k. map.get-from_entries text_pairs.total rows k ∙ sym (map.get-from_sorted pair_cmp rows k s)) in
    is ∙ sym (ap map.entries same ∙ map.entries-from_sorted pair_cmp rows s)

-- ---- kept uids
below_kept : (x : Text) (es : List (Text × Entry)) → AllByRecursion (λ y. text_cmp x y ≡ Less) (keys_of es) → AllByRecursion (λ y. text_cmp x y ≡ Less) (keys (collected kept_mark es))
below_kept x [] h = tt
below_kept x (e ∷ es) h = by_case (below_kept x es h.1) e.1.is_kept
  where
    by_case : AllByRecursion (λ y. text_cmp x y ≡ Less) (keys (collected kept_mark es)) → (b : Bool) → AllByRecursion (λ y. text_cmp x y ≡ Less) (keys (one_more e.0 (cond b (Some tt) None) (collected kept_mark es)))
    by_case later true = (h.0, later)
    by_case later false = later

kept_sorted : (es : List (Text × Entry)) → IsStrictlySortedBy text_cmp (keys_of es) → IsStrictlySortedBy text_cmp (keys (collected kept_mark es))
unfolding IsStrictlySortedBy
kept_sorted [] h = tt
kept_sorted (e ∷ es) h = by_case (kept_sorted es h.1) e.1.is_kept
  where
    by_case : IsStrictlySortedBy text_cmp (keys (collected kept_mark es)) → (b : Bool) → IsStrictlySortedBy text_cmp (keys (one_more e.0 (cond b (Some tt) None) (collected kept_mark es)))
    by_case later true = (below_kept e.0 es h.0, later)
    by_case later false = later

kept_keys : (es : List (Text × Entry)) → mapped (λ (e : Text × ℕ). e.0) (kept_list es) ≡ keys (collected kept_mark es)
kept_keys [] = refl
kept_keys (e ∷ es) = by_case (kept_keys es) e.1.is_kept
  where
    by_case : mapped (λ (k : Text × ℕ). k.0) (kept_list es) ≡ keys (collected kept_mark es) → (b : Bool) →
        mapped (λ (k : Text × ℕ). k.0) (cond b ((e.0, e.1.instance.size) ∷ kept_list es) (kept_list es)) ≡ keys (one_more e.0 (cond b (Some tt) None) (collected kept_mark es))
    by_case later true = ap (λ ks. e.0 ∷ ks) later
    by_case later false = later

same_or : (a b : Text) → Decides (eq_by_cmp text_cmp a b) (a ≡ b)
same_or a b = (λ t. tells_apart texts.exact a b t, λ e. ap (λ x. eq_by_cmp text_cmp x b) e ∙ ties_itself texts b)

module _ (p : Parts) (order : tree.IsOrdered text_cmp p.held) where
  abbrev IsMeasured : Text × ℕ → Type 0
  IsMeasured e = (item : Instance) × (map.get (content p).items e.0 ≡ Some item) × (item.size ≡ e.1)

  measured : (es : List (Text × Entry)) → All (λ (e : Text × Entry). at p.held e.0 ≡ Some e.1) es → All IsMeasured (kept_list es)
  measured [] h = λ k d lt. let none : ⊥ = omega (arith, lt) in absurd none
  measured (e ∷ es) h = by_case (measured es (All-tail (λ (x : Text × Entry). at p.held x.0 ≡ Some x.1) e es h)) e.1.is_kept
    where
      by_case : All IsMeasured (kept_list es) → (b : Bool) → All IsMeasured (cond b ((e.0, e.1.instance.size) ∷ kept_list es) (kept_list es))
      by_case later true = All-cons IsMeasured (e.0, e.1.instance.size) (kept_list es) (e.1.instance, item_at p order e.0 ∙ ap instance_in (All-head (λ (x : Text × Entry). at p.held x.0 ≡ Some x.1) e es h), refl) later
      by_case later false = later

  pub listed_kept : (all : List (Text × ℕ)) → all ≡ kept_list p.held.entries → AreKept (content p) all
  listed_kept all is =
      let P : List (Text × ℕ) → Type 0 = λ x. AreKept (content p) x in
      let Q : List Text → Type 0 = λ ks. Lists text_cmp (content p).kept ks in
      let ks = keys (collected kept_mark p.held.entries) in
      let listed : Lists text_cmp (content p).kept ks = record {
        ordered = kept_sorted p.held.entries order;
        each = λ x. (
          λ h. set.contains-from_list texts.total ks x ∙ (is_member-Decides same_or ks x).1 h,
          λ h. (is_member-Decides same_or ks x).0 (sym (set.contains-from_list texts.total ks x) ∙ h),
        );
      } in
      subst P (sym is) (subst Q (sym (kept_keys p.held.entries)) listed, measured p.held.entries (All-found texts.total p.held order))

pub append_nil : {X : Type 0} (xs : List X) → xs ++ [] ≡ xs
append_nil [] = refl
append_nil (x ∷ xs) = ap (λ ys. x ∷ ys) (append_nil xs)
