-- A table as a map: what it is to put a row, and to replace one.
use Rattle.std.proofs.Common.{◌≡◌, ◌≢◌, ◌⊎◌, inl, inr, ℤ, List, [], ◌∷◌, map, filter, Bool, true, false, not, ◌||◌, cond, Option, Some, None, IsTrue, refl, sym, ap, subst, ◌∙◌, true≢false}
use Rattle.std.specs.declared.cmp.Ordering.{Ordering}
use Rattle.std.specs.declared.cmp.Ordering.TheVariants.{Less, Equal, Greater}
use Rattle.std.specs.Ordering.{eq_by_cmp, is_eq, is_lt, match_ordering}
use Rattle.std.specs.Cmp.{IsTotalOrder}
use Rattle.std.specs.FinMap.{FinMap, get, from_entries, insert, find, get-from_entries, get-insert, same_map, IsAntisymmetric}
use Rattle.std.proofs.lemmas.Cmp.{tied_itself}
use Rattle.std.specs.List.{AllByRecursion}
use Rattle.sqlite.specs.declared.types.Value.{Value}
use Rattle.sqlite.specs.declared.types.Value.TheVariants.{Null, Int, Real, Text, Blob}
use Rattle.sqlite.specs.Order.{Row, value_cmp}
use Rattle.sqlite.specs.Tree.{rowid, has_rowid, put_row, without_rowid, IsAscending}
use Rattle.sqlite.specs.Edit.{is_taken}
use Rattle.sqlite_rules.specs.Lists.{Has}
use Rattle.sqlite_trees.specs.View.{is_int}
use Rattle.sqlite_trees.proofs.ListLemmas.{all-filter, ascending-filter}
use Rattle.sqlite_rules.proofs.ListLemmas.{all_has}
use Rattle.sqlite_trees.proofs.TreeLemmas.{all-put_row, not_true}
use Rattle.sqlite_value.proofs.OrderLemmas.{value_cmp-Int}
use Rattle.std.proofs.lemmas.Map.Lookups.{exact_signed}
use Rattle.dr_store_schema.specs.Ledgers.{AreRows}
use Rattle.sqlite_value.proofs.OrderLemmas.{value_cmp_total}

pub equal : (o : Ordering) → is_eq o ≡ true → o ≡ Equal
equal Less h = absurd cc
equal Equal h = refl
equal Greater h = absurd cc

swapped : {X : Type 0} (a b : Bool) (x y z : X) → (a ≡ true → b ≡ true → ⊥) → cond a x (cond b y z) ≡ cond b y (cond a x z)
swapped true true x y z apart = absurd (apart refl refl)
swapped true false x y z apart = refl
swapped false b x y z apart = refl

pub no_value : {X : Type 0} (b : Bool) (x : X) (rest : Option X) → cond b (Some x) rest ≡ None → b ≡ false
no_value true x rest h = absurd cc
no_value false x rest h = refl

pub last_of : {X : Type 0} (b : Bool) (x : X) (rest : Option X) → cond b (Some x) rest ≡ None → rest ≡ None
last_of true x rest h = absurd cc
last_of false x rest h = h

pub neither : (a b : Bool) → (a || b) ≡ false → (a ≡ false) × (b ≡ false)
neither true b h = absurd cc
neither false b h = (refl, h)

pub the_same : {X : Type 0} (b : Bool) (x : X) → cond b x x ≡ x
the_same true x = refl
the_same false x = refl

over_first : {X : Type 0} (b : Bool) (x y z : X) → cond b x (cond b y z) ≡ cond b x z
over_first true x y z = refl
over_first false x y z = refl

pub an_int : (v : Value) → IsTrue (is_int v) → (n : ℤ) × (v ≡ Int n)
an_int Null h = absurd cc
an_int (Int n) h = (n, refl)
an_int (Real x) h = absurd cc
an_int (Text t) h = absurd cc
an_int (Blob b) h = absurd cc

above_itself : (v : Value) (id : ℤ) → v ≡ Int id → is_lt (value_cmp v (Int id)) ≡ false
above_itself v id h = ap (λ x. is_lt (value_cmp x (Int id))) h ∙ ap is_lt (tied_itself value_cmp_total (Int id))

-- a number that is another isn't equal
pub not_this : (v : Value) (id n : ℤ) → v ≡ Int n → n ≢ id → is_eq (value_cmp v (Int id)) ≡ false
not_this v id n is other = not_true _ (λ t. other (exact_signed n id (sym (value_cmp-Int n id) ∙ sym (ap (λ x. value_cmp x (Int id)) is) ∙ equal _ t)))

other_rowids : (id : ℤ) (r : Row) → rowid r ≡ Int id → (rows : List Row) → AllByRecursion (λ x. rowid r ≢ rowid x) rows → AllByRecursion (λ x. IsTrue (is_int (rowid x))) rows
    → AllByRecursion (λ x. is_eq (value_cmp (rowid x) (Int id)) ≡ false) rows
other_rowids id r is [] apart ints = tt
other_rowids id r is (x ∷ rows) apart ints =
    let its = an_int (rowid x) ints.0 in
    (not_this (rowid x) id its.0 its.1 (λ same. apart.0 (is ∙ sym (ap Int same) ∙ sym its.1)), other_rowids id r is rows apart.1 ints.1)

-- a new row whose rowid isn't taken keeps them apart
untaken : (new : Row) (rows : List Row) → is_taken rows new ≡ false → AllByRecursion (λ r. rowid r ≢ rowid new) rows
untaken new [] free = tt
untaken new (r ∷ rows) free =
    let parts = neither (is_eq (value_cmp (rowid r) (rowid new))) (is_taken rows new) free in
    ((λ same. true≢false (sym (ap (λ v. is_eq (value_cmp v (rowid new))) same ∙ ap is_eq (tied_itself value_cmp_total (rowid new))) ∙ parts.0)), untaken new rows parts.1)

turned : (v : Value) (rows : List Row) → AllByRecursion (λ r. rowid r ≢ v) rows → AllByRecursion (λ r. v ≢ rowid r) rows
turned v [] h = tt
turned v (r ∷ rows) h = ((λ e. h.0 (sym e)), turned v rows h.1)

apart_put : (new : Row) (rows : List Row) → AllByRecursion (λ r. rowid r ≢ rowid new) rows → IsAscending (λ a b. rowid a ≢ rowid b) rows → IsAscending (λ a b. rowid a ≢ rowid b) (put_row new rows)
apart_put new [] free apart = (tt, tt)
apart_put new (r ∷ rows) free apart = go (value_cmp (rowid r) (rowid new)) (apart_put new rows free.1 apart.1)
  where
    go : (o : Ordering) → IsAscending (λ a b. rowid a ≢ rowid b) (put_row new rows) → IsAscending (λ a b. rowid a ≢ rowid b) (match_ordering o (r ∷ put_row new rows) (new ∷ rows) (new ∷ r ∷ rows))
    go Less more = (all-put_row (λ y. rowid r ≢ rowid y) new rows free.0 apart.0, more)
    go Equal more = (turned (rowid new) rows free.1, apart.1)
    go Greater more = (turned (rowid new) (r ∷ rows) free, apart)

pub rows_put : (new : Row) (rows : List Row) → IsTrue (is_int (rowid new)) → is_taken rows new ≡ false → AreRows rows → AreRows (put_row new rows)
rows_put new rows int free h = record { apart = apart_put new rows (untaken new rows free) h.apart; ints = all-put_row _ new rows int h.ints }

pub rows_without : (p : Row → Bool) (rows : List Row) → AreRows rows → AreRows (filter p rows)
rows_without p rows h = let it = ascending-filter _ p rows h.apart in record { apart = it; ints = all-filter _ p rows h.ints }

module _ {K V : Type 0} (entry : Row → K × V) where
  -- the row of this rowid is that of this key
  abbrev pub IsItsRow : ℤ → K → Row → Type 0
  IsItsRow id k row = (has_rowid id row ≡ true → (entry row).0 ≡ k) × ((entry row).0 ≡ k → has_rowid id row ≡ true)

  -- the test takes the rows of this key
  abbrev pub Hits : (Row → Bool) → K → Row → Type 0
  Hits hit k row = (hit row ≡ true → (entry row).0 ≡ k) × ((entry row).0 ≡ k → hit row ≡ true)

  -- the keys differ
  abbrev pub AreApart : List Row → Type 0
  AreApart = IsAscending (λ a b. (entry a).0 ≢ (entry b).0)

module _ {K V : Type 0} {R : K → K → Ordering} (total : IsTotalOrder R) (exact : IsAntisymmetric R) (entry : Row → K × V) where
  same_key : (a b : K) → eq_by_cmp R a b ≡ true → a ≡ b
  same_key a b h = exact a b (equal (R a b) h)

  itself : (a : K) → eq_by_cmp R a a ≡ true
  itself a = ap is_eq (tied_itself total a)

  -- wherever the row goes, its entry is added
  pub find_put : (new : Row) (q : K) (rows : List Row) → is_taken rows new ≡ false → find R (entry new).0 (map entry rows) ≡ None
      → find R q (map entry (put_row new rows)) ≡ cond (eq_by_cmp R q (entry new).0) (Some (entry new).1) (find R q (map entry rows))
  find_put new q [] free none = refl
  find_put new q (r ∷ rows) free none =
      let e = (entry new).0 in
      let k = (entry r).0 in
      let parts = neither (is_eq (value_cmp (rowid r) (rowid new))) (is_taken rows new) free in
      let rest = find_put new q rows parts.1 (last_of (eq_by_cmp R e k) (entry r).1 (find R e (map entry rows)) none) in
      let apart : eq_by_cmp R q k ≡ true → eq_by_cmp R q e ≡ true → ⊥ = λ a b.
      let hit : eq_by_cmp R e k ≡ true = subst (λ x. eq_by_cmp R x k ≡ true) (same_key q e b) a in
      true≢false (sym hit ∙ no_value (eq_by_cmp R e k) (entry r).1 (find R e (map entry rows)) none) in
      go (value_cmp (rowid r) (rowid new)) parts.0 (ap (cond (eq_by_cmp R q k) (Some (entry r).1)) rest ∙ swapped _ _ _ _ _ apart)
    where
      go : (o : Ordering) → is_eq o ≡ false
          → cond (eq_by_cmp R q (entry r).0) (Some (entry r).1) (find R q (map entry (put_row new rows))) ≡ cond (eq_by_cmp R q (entry new).0) (Some (entry new).1) (find R q (map entry (r ∷ rows)))
          → find R q (map entry (match_ordering o (r ∷ put_row new rows) (new ∷ rows) (new ∷ r ∷ rows))) ≡ cond (eq_by_cmp R q (entry new).0) (Some (entry new).1) (find R q (map entry (r ∷ rows)))
      go Less other later = later
      go Equal other later = absurd cc
      go Greater other later = refl

  pub find_without : (id : ℤ) (k q : K) (rows : List Row) → AllByRecursion (IsItsRow entry id k) rows
      → find R q (map entry (without_rowid id rows)) ≡ cond (eq_by_cmp R q k) None (find R q (map entry rows))
  find_without id k q [] all = sym (the_same (eq_by_cmp R q k) None)
  find_without id k q (r ∷ rows) all = go (has_rowid id r) refl (find_without id k q rows all.1)
    where
      go : (b : Bool) → has_rowid id r ≡ b → find R q (map entry (without_rowid id rows)) ≡ cond (eq_by_cmp R q k) None (find R q (map entry rows))
          → find R q (map entry (cond (not b) (r ∷ without_rowid id rows) (without_rowid id rows))) ≡ cond (eq_by_cmp R q k) None (find R q (map entry (r ∷ rows)))
      go true is later =
          later ∙ sym (ap (λ x. cond (eq_by_cmp R q k) None (cond (eq_by_cmp R q x) (Some (entry r).1) (find R q (map entry rows)))) (all.0.0 is) ∙ over_first (eq_by_cmp R q k) _ _ _)
      go false is later =
          ap (cond (eq_by_cmp R q (entry r).0) (Some (entry r).1)) later
          ∙ swapped (eq_by_cmp R q (entry r).0) (eq_by_cmp R q k) _ _ _ (λ a b. true≢false (sym (all.0.1 (sym (same_key q (entry r).0 a) ∙ same_key q k b)) ∙ is))

  -- The row of a key is replaced: the key has the new value, and each other its own.
  pub find_replaced : (id : ℤ) (new : Row) (q : K) (rows : List Row) → AllByRecursion (IsItsRow entry id (entry new).0) rows → is_taken (without_rowid id rows) new ≡ false
      → find R q (map entry (put_row new (without_rowid id rows))) ≡ cond (eq_by_cmp R q (entry new).0) (Some (entry new).1) (find R q (map entry rows))
  find_replaced id new q rows all free =
      let k = (entry new).0 in
      let gone : find R k (map entry (without_rowid id rows)) ≡ None = find_without id k k rows all ∙ ap (λ b. cond b None (find R k (map entry rows))) (itself k) in
      find_put new q (without_rowid id rows) free gone ∙ ap (cond (eq_by_cmp R q k) (Some (entry new).1)) (find_without id k q rows all) ∙ over_first (eq_by_cmp R q k) _ _ _

  pub map_put : (new : Row) (rows : List Row) → is_taken rows new ≡ false → find R (entry new).0 (map entry rows) ≡ None
      → from_entries {R = R} (map entry (put_row new rows)) ≡ insert (from_entries (map entry rows)) (entry new).0 (entry new).1
  map_put new rows free none = same_map total exact _ _ (λ q.
      get-from_entries total (map entry (put_row new rows)) q ∙ find_put new q rows free none
      ∙ ap (cond (eq_by_cmp R q (entry new).0) (Some (entry new).1)) (sym (get-from_entries total (map entry rows) q))
      ∙ sym (get-insert total (from_entries (map entry rows)) (entry new).0 (entry new).1 q))

  pub map_replaced : (id : ℤ) (new : Row) (rows : List Row) → AllByRecursion (IsItsRow entry id (entry new).0) rows → is_taken (without_rowid id rows) new ≡ false
      → from_entries {R = R} (map entry (put_row new (without_rowid id rows))) ≡ insert (from_entries (map entry rows)) (entry new).0 (entry new).1
  map_replaced id new rows all free = same_map total exact _ _ (λ q.
      get-from_entries total (map entry (put_row new (without_rowid id rows))) q ∙ find_replaced id new q rows all free
      ∙ ap (cond (eq_by_cmp R q (entry new).0) (Some (entry new).1)) (sym (get-from_entries total (map entry rows) q))
      ∙ sym (get-insert total (from_entries (map entry rows)) (entry new).0 (entry new).1 q))

  pub record IsOnlyRow (hit : Row → Bool) (k : K) (rows : List Row) : Type 0 where
    pub row : Row
    pub id : ℤ
    pub hits : filter hit rows ≡ row ∷ []
    pub rowid_is : rowid row ≡ Int id
    pub key : (entry row).0 ≡ k
    pub found : find R k (map entry rows) ≡ Some (entry row).1
    pub its : AllByRecursion (IsItsRow entry id k) rows
    pub among : Has rows row

  no_hit : (hit : Row → Bool) (k : K) (rows : List Row) → AllByRecursion (Hits entry hit k) rows → AllByRecursion (λ r. k ≢ (entry r).0) rows
      → filter hit rows ≡ []
  no_hit hit k [] all apart = refl
  no_hit hit k (r ∷ rows) all apart = go (hit r) refl (no_hit hit k rows all.1 apart.1)
    where
      go : (b : Bool) → hit r ≡ b → filter hit rows ≡ [] → cond b (r ∷ filter hit rows) (filter hit rows) ≡ []
      go true is later = absurd (apart.0 (sym (all.0.0 is)))
      go false is later = later

  not_its : (id : ℤ) (k : K) (rows : List Row) → AllByRecursion (λ r. is_eq (value_cmp (rowid r) (Int id)) ≡ false) rows → AllByRecursion (λ r. k ≢ (entry r).0) rows
      → AllByRecursion (IsItsRow entry id k) rows
  not_its id k [] ids keys = tt
  not_its id k (r ∷ rows) ids keys = ((λ h. absurd (true≢false (sym h ∙ ids.0)), λ h. absurd (keys.0 (sym h))), not_its id k rows ids.1 keys.1)

  -- of a table whose keys differ, at most one row has the key
  pub one_hit : (hit : Row → Bool) (k : K) (rows : List Row) → IsAscending (λ a b. rowid a ≢ rowid b) rows → AllByRecursion (λ r. IsTrue (is_int (rowid r))) rows → AreApart entry rows → AllByRecursion (Hits entry hit k) rows
      → ((filter hit rows ≡ []) × (find R k (map entry rows) ≡ None)) ⊎ IsOnlyRow hit k rows
  one_hit hit k [] table ints apart all = inl (refl, refl)
  one_hit hit k (r ∷ rows) table ints apart all = go (eq_by_cmp R k (entry r).0) refl (one_hit hit k rows table.1 ints.1 apart.1 all.1)
    where
      missed : eq_by_cmp R k (entry r).0 ≡ false → hit r ≡ false
      missed other = not_hit (hit r) refl
        where
          not_hit : (b : Bool) → hit r ≡ b → b ≡ false
          not_hit true is = absurd (true≢false (sym (itself k) ∙ ap (eq_by_cmp R k) (sym (all.0.0 is)) ∙ other))
          not_hit false is = refl

      go : (b : Bool) → eq_by_cmp R k (entry r).0 ≡ b → ((filter hit rows ≡ []) × (find R k (map entry rows) ≡ None)) ⊎ IsOnlyRow hit k rows
          → ((filter hit (r ∷ rows) ≡ []) × (find R k (map entry (r ∷ rows)) ≡ None)) ⊎ IsOnlyRow hit k (r ∷ rows)
      go true is later =
          let same = same_key k (entry r).0 is in
          let int = an_int (rowid r) ints.0 in
          let others : AllByRecursion (λ x. k ≢ (entry x).0) rows = rw same apart.0 in
          let self : has_rowid int.0 r ≡ true = ap (λ v. is_eq (value_cmp v (Int int.0))) int.1 ∙ ap is_eq (tied_itself value_cmp_total (Int int.0)) in
          inr (record {
            row = r;
            id = int.0;
            hits = ap (λ b. cond b (r ∷ filter hit rows) (filter hit rows)) (all.0.1 (sym same)) ∙ ap (λ xs. r ∷ xs) (no_hit hit k rows all.1 others);
            rowid_is = int.1;
            key = sym same;
            found = ap (λ b. cond b (Some (entry r).1) (find R k (map entry rows))) is;
            its = ((λ _. sym same, λ _. self), not_its int.0 k rows (other_rowids int.0 r int.1 rows table.0 ints.1) others);
            among = inl refl;
          })
      go false is (inl none) = inl (ap (λ b. cond b (r ∷ filter hit rows) (filter hit rows)) (missed is) ∙ none.0, ap (λ b. cond b (Some (entry r).1) (find R k (map entry rows))) is ∙ none.1)
      go false is (inr one) = inr (record {
        row = one.row;
        id = one.id;
        rowid_is = one.rowid_is;
        key = one.key;
        hits = ap (λ b. cond b (r ∷ filter hit rows) (filter hit rows)) (missed is) ∙ one.hits;
        found = ap (λ b. cond b (Some (entry r).1) (find R k (map entry rows))) is ∙ one.found;
        its = ((λ h. absurd (true≢false (sym h ∙ earlier)), λ h. absurd (true≢false (sym (itself k) ∙ ap (eq_by_cmp R k) (sym h) ∙ is))), one.its);
        among = inr one.among;
      })
        where
          earlier : has_rowid one.id r ≡ false
          earlier =
              let mine = an_int (rowid r) ints.0 in
              let differ : rowid r ≢ rowid one.row = all_has (λ x. rowid r ≢ rowid x) rows one.row table.0 one.among in
              not_this (rowid r) one.id mine.0 mine.1 (λ same. differ (mine.1 ∙ ap Int same ∙ sym one.rowid_is))

  -- what the test takes alone is what is found
  pub found_hit : (hit : Row → Bool) (k : K) (row : Row) (rows : List Row) → AllByRecursion (Hits entry hit k) rows → filter hit rows ≡ row ∷ [] → find R k (map entry rows) ≡ Some (entry row).1
  found_hit hit k row [] all one = absurd cc
  found_hit hit k row (r ∷ rows) all one = go (hit r) refl (found_hit hit k row rows all.1) one
    where
      go : (b : Bool) → hit r ≡ b → (filter hit rows ≡ row ∷ [] → find R k (map entry rows) ≡ Some (entry row).1) → cond b (r ∷ filter hit rows) (filter hit rows) ≡ row ∷ []
          → find R k (map entry (r ∷ rows)) ≡ Some (entry row).1
      go true is later one =
          let same : r ≡ row = cc in
          ap (λ x. cond (eq_by_cmp R k x) (Some (entry r).1) (find R k (map entry rows))) (all.0.0 is) ∙ ap (λ b. cond b (Some (entry r).1) (find R k (map entry rows))) (itself k) ∙ ap (λ x. Some (entry x).1) same
      go false is later one = ap (λ b. cond b (Some (entry r).1) (find R k (map entry rows))) (not_true _ (λ t. true≢false (sym (all.0.1 (sym (same_key k (entry r).0 t))) ∙ is))) ∙ later one

  -- to insert what is there changes nothing
  pub insert_there : (m : FinMap R V) (k : K) (v : V) → get m k ≡ Some v → insert m k v ≡ m
  insert_there m k v there = same_map total exact _ _ (λ q. get-insert total m k v q ∙ go q (eq_by_cmp R q k) refl)
    where
      go : (q : K) (b : Bool) → eq_by_cmp R q k ≡ b → cond b (Some v) (get m q) ≡ get m q
      go q true is = sym (ap (get m) (same_key q k is) ∙ there)
      go q false is = refl
