-- What maps and sets are after a change of the trees that hold them.
use Rattle.std.proofs.Common.{◌≡◌, Bool, true, false, cond, not, ◌||◌, List, [], ◌∷◌, Option, None, Some, unwrap_or, is_some, refl, sym, ap, subst, ◌∙◌}
use Rattle.std.specs.declared.cmp.Ordering.{Ordering}
use Rattle.std.specs.declared.cmp.Ordering.TheVariants.{Less}
use Rattle.std.specs.Ordering.{eq_by_cmp, is_eq}
use Rattle.std.specs.Cmp.{eq_by_cmp_equiv}
use Rattle.std.specs.List.{AllByRecursion, list_any}
use Rattle.std.specs.List.Sorted.{IsStrictlySortedBy}
use Rattle.std.specs.Map.{keys_of, lookup}
use Rattle.std.specs.Map.Calls.{RetainsPairs}
use Rattle.std.specs.BTreeMap as tree
use Rattle.std.specs.BTreeMap.{is_at}
use Rattle.std.specs.BTreeSet as sorted
use Rattle.std.specs.FinMap as map
use Rattle.std.specs.FinMap.{FinMap, find}
use Rattle.std.specs.FinSet as set
use Rattle.std.proofs.lemmas.Map.Views.{tells_apart}
use Rattle.dr_base.specs.Texts.{Text}
use Rattle.dr_ledger.specs.declared.item.Progress.{Progress}
use Rattle.dr_ledger.specs.declared.item.Progress.TheVariants.{Waiting, Held, Done, Dropped}
use Rattle.dr_ledger.specs.Books.{arrived_row, is_over_row, is_queued, not_over, with_rows}
use Rattle.dr_ledger.specs.Pairs.{Pair, pair_cmp}
use Rattle.dr_ledger.proofs.Growing.{not_over_is}
use Rattle.dr_ledger.proofs.Maps.{IsExact, text_pairs}
use Rattle.dr_ledger_history.specs.Trees.{as_map, as_set, stands}

some_of : {X : Type 0} (o : Option X) (d : X) → is_some o ≡ true → o ≡ Some (unwrap_or o d)
some_of None d h = absurd (let e : ⊥ = cc in e)
some_of (Some x) d h = refl

either : (b c : Bool) → cond b true c ≡ (b || c)
either true c = refl
either false c = refl

module _ {K : Type 0} {R : K → K → Ordering} (e : IsExact R) where
  module _ {X : Type 0} where
    same_lookup : (k : K) (es : List (K × X)) → find R k es ≡ lookup (is_at (R k)) es
    same_lookup k [] = refl
    same_lookup k (x ∷ es) = ap (cond (eq_by_cmp R k x.0) (Some x.1)) (same_lookup k es)

    -- what stands at a key
    pub get_at : (m : tree.BTreeMap K X) (k : K) → map.get (as_map R m) k ≡ tree.get R m k
    get_at m k = map.get-from_entries e.total m.entries k ∙ same_lookup k m.entries

    -- a value is put at a key
    pub put_at : (m n : tree.BTreeMap K X) (k : K) (v : X) → ((q : K) → tree.get R n q ≡ cond (is_at (R k) q) (Some v) (tree.get R m q)) → as_map R n ≡ map.insert (as_map R m) k v
    put_at m n k v u = map.same_map e.total e.exact (as_map R n) (map.insert (as_map R m) k v) (λ q.
        get_at n q ∙ (u q ∙ ((λ j. cond ((eq_by_cmp_equiv e.total).symm k q j) (Some v) (sym (get_at m q) j))
        ∙ sym (map.get-insert e.total (as_map R m) k v q))))

    -- a value is taken out
    pub taken_out : (m n : tree.BTreeMap K X) (k : K) →
        ((q : K) → tree.get R n q ≡ cond (is_at (R k) q) None (tree.get R m q)) →
        as_map R n ≡ map.remove (as_map R m) k
    taken_out m n k u = map.same_map e.total e.exact (as_map R n) (map.remove (as_map R m) k) (λ q.
        get_at n q ∙ (u q
        ∙ ((λ j. cond ((eq_by_cmp_equiv e.total).symm k q j) None (sym (get_at m q) j))
        ∙ sym (map.get-remove e.total (as_map R m) k q))))

    -- it is put there where there was none
    pub filled : (m n : tree.BTreeMap K X) (k : K) (v : X) → is_some (tree.get R m k) ≡ false → ((q : K) → tree.get R n q ≡ cond (is_at (R k) q) (Some v) (tree.get R m q)) →
        as_map R n ≡ map.insert (as_map R m) k (unwrap_or (map.get (as_map R m) k) v)
    filled m n k v none u = put_at m n k v u ∙ ap (map.insert (as_map R m) k) (sym (nothing (map.get (as_map R m) k) (ap is_some (get_at m k) ∙ none)))
      where
        nothing : (o : Option X) → is_some o ≡ false → unwrap_or o v ≡ v
        nothing None h = refl
        nothing (Some x) h = absurd (let f : ⊥ = cc in f)

    -- what stands at a key is put there
    pub stays : (m : tree.BTreeMap K X) (k : K) (had : X) → map.get (as_map R m) k ≡ Some had → as_map R m ≡ map.insert (as_map R m) k had
    stays m k had is = map.same_map e.total e.exact (as_map R m) (map.insert (as_map R m) k had) (λ q. by_case q (eq_by_cmp R q k) refl ∙ sym (map.get-insert e.total (as_map R m) k had q))
      where
        by_case : (q : K) (b : Bool) → eq_by_cmp R q k ≡ b → map.get (as_map R m) q ≡ cond (eq_by_cmp R q k) (Some had) (map.get (as_map R m) q)
        by_case q true t = ap (map.get (as_map R m)) (tells_apart e.exact q k t) ∙ (is ∙ sym (ap (λ b. cond b (Some had) (map.get (as_map R m) q)) t))
        by_case q false t = sym (ap (λ b. cond b (Some had) (map.get (as_map R m) q)) t)

    -- and nothing is done where there was one
    pub full : (m : tree.BTreeMap K X) (k : K) (v : X) → is_some (tree.get R m k) ≡ true → as_map R m ≡ map.insert (as_map R m) k (unwrap_or (map.get (as_map R m) k) v)
    full m k v some = stays m k (unwrap_or (map.get (as_map R m) k) v) (some_of (map.get (as_map R m) k) v (ap is_some (get_at m k) ∙ some))

    -- a key that is below all others stands at none of them
    below : (x : K) (es : List (K × X)) → AllByRecursion (λ y. R x y ≡ Less) (keys_of es) → lookup (is_at (R x)) es ≡ None
    below x [] h = refl
    below x (y ∷ es) h = ap (λ r. cond (is_eq r) (Some y.1) (lookup (is_at (R x)) es)) h.0 ∙ below x es h.1

    pub not_later : (q x : K) (es : List (K × X)) → eq_by_cmp R q x ≡ true → AllByRecursion (λ y. R x y ≡ Less) (keys_of es) → lookup (is_at (R q)) es ≡ None
    not_later q x es t h = (let P : K → Type 0 = λ u. lookup (is_at (R u)) es ≡ None in subst P (sym (tells_apart e.exact q x t)) (below x es h))

    pub no_entries : (m : tree.BTreeMap K X) → m.entries ≡ [] → as_map R m ≡ map.empty
    no_entries m h = map.same_map e.total e.exact (as_map R m) map.empty (λ q. get_at m q ∙ (ap (lookup (is_at (R q))) h ∙ sym (map.get-empty R q)))

  -- whether a key is there
  pub has_at : (s : sorted.BTreeSet K) (k : K) → set.contains (as_set R s) k ≡ sorted.contains R s k
  has_at s k = set.contains-from_list e.total s.keys k

  pub set_put : (s n : sorted.BTreeSet K) (k : K) → ((q : K) → sorted.contains R n q ≡ cond (is_at (R k) q) true (sorted.contains R s q)) → as_set R n ≡ set.insert (as_set R s) k
  set_put s n k u = set.same_set e.total e.exact (as_set R n) (set.insert (as_set R s) k) (λ q.
      has_at n q ∙ (u q ∙ (either (is_at (R k) q) (sorted.contains R s q)
      ∙ ((λ j. (eq_by_cmp_equiv e.total).symm k q j || sym (has_at s q) j) ∙ sym (set.contains-insert e.total (as_set R s) k q)))))

  pub no_keys : (s : sorted.BTreeSet K) → s.keys ≡ [] → as_set R s ≡ set.empty
  no_keys s h = set.same_set e.total e.exact (as_set R s) set.empty (λ q. has_at s q ∙ (ap (list_any (is_at (R q))) h ∙ sym (set.contains-empty R q)))

-- ---- rows of an arrival
anew : (o : Option Progress) → stands o ≡ false → arrived_row o ≡ Waiting 0 0
anew None h = refl
anew (Some Dropped) h = refl
anew (Some Done) h = absurd (let e : ⊥ = cc in e)
anew (Some (Held why)) h = absurd (let e : ⊥ = cc in e)
anew (Some (Waiting tries due)) h = absurd (let e : ⊥ = cc in e)

as_it_was : (o : Option Progress) → stands o ≡ true → o ≡ Some (arrived_row o)
as_it_was None h = absurd (let e : ⊥ = cc in e)
as_it_was (Some Dropped) h = absurd (let e : ⊥ = cc in e)
as_it_was (Some Done) h = refl
as_it_was (Some (Held why)) h = refl
as_it_was (Some (Waiting tries due)) h = refl

-- a row that an arrival leaves, and one that it makes
pub row_stands : (m : tree.BTreeMap Pair Progress) (k : Pair) → stands (map.get (as_map pair_cmp m) k) ≡ true →
    as_map pair_cmp m ≡ map.insert (as_map pair_cmp m) k (arrived_row (map.get (as_map pair_cmp m) k))
row_stands m k some = stays text_pairs m k (arrived_row (map.get (as_map pair_cmp m) k)) (as_it_was (map.get (as_map pair_cmp m) k) some)

pub row_made : (m n : tree.BTreeMap Pair Progress) (k : Pair) → stands (map.get (as_map pair_cmp m) k) ≡ false →
    ((q : Pair) → tree.get pair_cmp n q ≡ cond (is_at (pair_cmp k) q) (Some (Waiting 0 0)) (tree.get pair_cmp m q)) →
    as_map pair_cmp n ≡ map.insert (as_map pair_cmp m) k (arrived_row (map.get (as_map pair_cmp m) k))
row_made m n k none u = put_at text_pairs m n k (Waiting 0 0) u ∙ ap (map.insert (as_map pair_cmp m) k) (sym (anew (map.get (as_map pair_cmp m) k) none))

pub row_filled : (m n : FinMap pair_cmp Progress) (uid to : Text) (more : List Text) → n ≡ map.insert m (uid, to) (arrived_row (map.get m (uid, to))) → with_rows n uid more ≡ with_rows m uid (to ∷ more)
unfolding with_rows
row_filled m n uid to more h = ap (λ x. with_rows x uid more) h

pub rows_filled : (m : FinMap pair_cmp Progress) (uid : Text) (to : List Text) → to ≡ [] → with_rows m uid to ≡ m
unfolding with_rows
rows_filled m uid to h = ap (with_rows m uid) h

-- ---- rows that are done or dropped leave
abbrev opened : Option Progress → Option Progress
opened o = cond (not (is_over_row o)) o None

twice : (b : Bool) → b ≡ not (not b)
twice true = refl
twice false = refl

head_of : (x : Pair × Progress) (es : List (Pair × Progress)) → IsStrictlySortedBy pair_cmp (keys_of (x ∷ es)) → AllByRecursion (λ y. pair_cmp x.0 y ≡ Less) (keys_of es)
unfolding IsStrictlySortedBy
head_of x es h = h.0

rest_of : (x : Pair × Progress) (es : List (Pair × Progress)) → IsStrictlySortedBy pair_cmp (keys_of (x ∷ es)) → IsStrictlySortedBy pair_cmp (keys_of es)
unfolding IsStrictlySortedBy
rest_of x es h = h.1

retained : {F : Type 0} (T : F → Pair → Progress → Bool → Progress → F → Type 0) → ((f : F) (k : Pair) (v : Progress) (b : Bool) (w : Progress) (g : F) → T f k v b w g → (b ≡ is_queued v) × (w ≡ v)) →
    (f : F) (es kept : List (Pair × Progress)) → IsStrictlySortedBy pair_cmp (keys_of es) → RetainsPairs T f es kept → (q : Pair) → lookup (is_at (pair_cmp q)) kept ≡ opened (lookup (is_at (pair_cmp q)) es)
retained T each f [] kept order r q = ap (lookup (is_at (pair_cmp q))) r
retained T each f (x ∷ es) kept order r q =
    let w = r.1 in
    let rest = r.3 in
    let call = each f x.0 x.1 r.0 w r.2 r.4 in
    let goes_on = not (is_over_row (Some x.1)) in
    let is : kept ≡ cond goes_on ((x.0, w) ∷ rest) rest = r.6 ∙ ap (λ b. cond b ((x.0, w) ∷ rest) rest) (call.0 ∙ twice (is_queued x.1)) in
    ap (lookup (is_at (pair_cmp q))) is
    ∙ by_case goes_on refl (is_at (pair_cmp q) x.0) refl w call.1 rest (retained T each r.2 es rest (rest_of x es order) r.5 q)
  where
    by_case : (b : Bool) → not (is_over_row (Some x.1)) ≡ b → (t : Bool) → is_at (pair_cmp q) x.0 ≡ t → (w : Progress) → w ≡ x.1 → (rest : List (Pair × Progress)) →
        lookup (is_at (pair_cmp q)) rest ≡ opened (lookup (is_at (pair_cmp q)) es) →
        lookup (is_at (pair_cmp q)) (cond b ((x.0, w) ∷ rest) rest) ≡ opened (cond t (Some x.1) (lookup (is_at (pair_cmp q)) es))
    by_case true o true t w is rest later = ap (λ b. cond b (Some w) (lookup (is_at (pair_cmp q)) rest)) t ∙ (ap Some is ∙ sym (ap (λ b. cond b (Some x.1) None) o))
    by_case true o false t w is rest later = ap (λ b. cond b (Some w) (lookup (is_at (pair_cmp q)) rest)) t ∙ later
    by_case false o true t w is rest later = later ∙ (ap opened (not_later text_pairs q x.0 es t (head_of x es order)) ∙ sym (ap (λ b. cond b (Some x.1) None) o))
    by_case false o false t w is rest later = later

pub pruned : {F : Type 0} (T : F → Pair → Progress → Bool → Progress → F → Type 0) → ((f : F) (k : Pair) (v : Progress) (b : Bool) (w : Progress) (g : F) → T f k v b w g → (b ≡ is_queued v) × (w ≡ v)) →
    (f : F) (m n : tree.BTreeMap Pair Progress) → tree.IsOrdered pair_cmp m → RetainsPairs T f m.entries n.entries → as_map pair_cmp n ≡ not_over (as_map pair_cmp m)
pruned T each f m n order r = map.same_map text_pairs.total text_pairs.exact (as_map pair_cmp n) (not_over (as_map pair_cmp m)) (λ q.
    get_at text_pairs n q ∙ (retained T each f m.entries n.entries order r q ∙ (ap opened (sym (get_at text_pairs m q)) ∙ sym (not_over_is (as_map pair_cmp m) q))))
