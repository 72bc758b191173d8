-- What first arrivals make of the book, and of its data sets.
use Rattle.std.proofs.Common.{◌≡◌, ◌↔◌, inl, inr, ℕ, pos, ◌<◌, ◌==◌, List, [], ◌∷◌, ◌++◌, Contains, map as mapped, Bool, true, false, cond, not, ◌&&◌, ◌||◌, T, is_some, Some, None, unwrap_or, refl, sym, ap, subst, ◌∙◌, true≢false, arith, ne_eqb, eq-eqb}
use Rattle.std.specs.Cmp.Lexicographic.{nat_list_cmp_total}
use Rattle.std.specs.declared.cmp.Ordering.{Ordering}
use Rattle.std.specs.declared.cmp.Ordering.TheVariants.{Less, Equal, Greater}
use Rattle.std.specs.FinMap as map
use Rattle.std.specs.FinMap.{FinMap, is_sorted}
use Rattle.std.specs.FinMap.Entries.{below_all}
use Rattle.std.specs.FinSet as set
use Rattle.std.specs.FinSet.{FinSet}
use Rattle.std.specs.List.{AllByRecursion, list_any}
use Rattle.std.specs.List.Sorted.{IsStrictlySortedBy}
use Rattle.std.specs.Ordering.{eq_by_cmp, is_eq, is_lt, nat_cmp}
use Rattle.std.proofs.lemmas.Cmp.{tied_itself}
use Rattle.std.proofs.lemmas.Map.Lookups.{exact_bytes}
use Rattle.std.proofs.lemmas.Map.Views.{tells_apart}
use Rattle.sqlite.specs.declared.types.Value.{Value}
use Rattle.sqlite.specs.declared.types.Value.TheVariants.{Int}
use Rattle.sqlite.specs.Order.{Row, column}
use Rattle.sqlite.specs.Tree.{rowid}
use Rattle.dr_base.specs.Texts.{Text, text_cmp}
use Rattle.dr_route.specs.Routes.{local}
use Rattle.dr_plan_model.proofs.Gathered.{Contains-cons_cases, nothing_in_nil}
use Rattle.dr_ledger.specs.declared.item.Instance.{Instance}
use Rattle.dr_ledger.specs.Bodies.{Bodies, IsNeeded}
use Rattle.dr_ledger.specs.Books.{Book, Arrival, after}
use Rattle.dr_ledger.proofs.Growing.{kept_from, still_kept}
use Rattle.dr_ledger.proofs.Maps.{get_new, get_other, same_or_not, texts, ties_itself}
use Rattle.dr_ledger.proofs.PlanRouting.{any_from, one_list, or_right}
use Rattle.dr_store_schema.specs.Books.{AreBelow, NameSet, all_kept_in, instance_in, items_of, line_by, line_in, lines_in, lines_of, names_in, numbered_line, rows_of}
use Rattle.dr_store_schema.specs.Cells.{number_in, outcome_in, text_in}
use Rattle.dr_store_writes.proofs.Maps.{equal}
use Rattle.dr_store_changes.specs.declared.first.Taking.{Taking}
use Rattle.dr_store_changes.specs.declared.first.Taking.TheVariants as taking
use Rattle.dr_store_changes.specs.Bringing.{AreTargets, HasCells, IsKnownFor, bodies_taken, items_taken, names_for}
use Rattle.dr_store_changes.specs.Changes.{with_names}
use Rattle.dr_store_changes.specs.Laws.{ArrivalsArrive, ComesWhereNeeded, DataSetsCome}
use Rattle.dr_store_changes.proofs.Bookings.{came}
use Rattle.dr_store_changes.proofs.Fresh.{queued_stays, row_came, rows_fresh}
use Rattle.dr_store_changes.proofs.Numbers.{lines_put}
use Rattle.dr_store_changes.proofs.Sets.{present}

-- ---- a map that gets what it has

-- to insert what is there changes nothing
same_put : (items : FinMap text_cmp Instance) (uid : Text) (item : Instance) → map.get items uid ≡ Some item → map.insert items uid item ≡ items
same_put items uid item there = map.same_map nat_list_cmp_total exact_bytes _ _ (λ q. map.get-insert nat_list_cmp_total items uid item q ∙ go q (eq_by_cmp text_cmp q uid) refl)
  where
    go : (q : Text) (b : Bool) → eq_by_cmp text_cmp q uid ≡ b → cond b (Some item) (map.get items q) ≡ map.get items q
    go q true is = sym (ap (map.get items) (exact_bytes q uid (equal _ is)) ∙ there)
    go q false is = refl

-- ---- kept, where it isn't

kept_once : (kept : FinSet text_cmp) (uid : Text) (keep : Bool) → cond (keep && not (set.contains kept uid)) (set.insert kept uid) kept ≡ cond keep (set.insert kept uid) kept
kept_once kept uid false = refl
kept_once kept uid true = go (set.contains kept uid) refl
  where
    there : (q : Text) (b : Bool) → eq_by_cmp text_cmp q uid ≡ b → set.contains kept uid ≡ true → set.contains kept q ≡ (b || set.contains kept q)
    there q true is has = ap (set.contains kept) (exact_bytes q uid (equal _ is)) ∙ has
    there q false is has = refl

    go : (b : Bool) → set.contains kept uid ≡ b → cond (true && not b) (set.insert kept uid) kept ≡ cond true (set.insert kept uid) kept
    go true is = set.same_set nat_list_cmp_total exact_bytes _ _ (λ q. there q (eq_by_cmp text_cmp q uid) refl is ∙ sym (set.contains-insert nat_list_cmp_total kept uid q))
    go false is = refl

-- ---- where a line goes on to

mark_itself : (q : Text) → eq_by_cmp text_cmp q q ≡ true
mark_itself q = ap is_eq (tied_itself nat_list_cmp_total q)

in_list : (q : Text) (xs : List Text) → list_any (eq_by_cmp text_cmp q) xs ≡ true → Contains xs q
in_list q xs h = let found = any_from (eq_by_cmp text_cmp q) xs h in subst (λ t. Contains xs t) (sym (tells_apart exact_bytes q found.0 found.2)) found.1

any_here : (q : Text) (xs : List Text) → Contains xs q → list_any (eq_by_cmp text_cmp q) xs ≡ true
any_here q [] h = absurd (nothing_in_nil q h)
any_here q (x ∷ xs) h = elim (Contains-cons_cases x xs q h) [
  | inl same ↦ ap (λ b. b || list_any (eq_by_cmp text_cmp q) xs) (ap (λ t. eq_by_cmp text_cmp q t) same ∙ mark_itself q)
  | inr later ↦ or_right (eq_by_cmp text_cmp q x) (list_any (eq_by_cmp text_cmp q) xs) (any_here q xs later)
]

keys_hold : (m : NameSet) (q : Text) → Contains (map.keys m) q ↔ (map.contains_key m q ≡ true)
keys_hold m q = (λ h. map.contains_key-keys m q ∙ any_here q (map.keys m) h, λ h. in_list q (map.keys m) (sym (map.contains_key-keys m q) ∙ h))

less : (r : Ordering) → T (is_lt r) → r ≡ Less
less Less h = refl
less Equal h = absurd h
less Greater h = absurd h

t_first : (a b : Bool) → T (a && b) → T a
t_first true b h = tt
t_first false b h = absurd h

t_second : (a b : Bool) → T (a && b) → T b
t_second true b h = h
t_second false b h = absurd h

keys_below : (x : Text) (es : List (Text × Unit {0})) → T (below_all text_cmp x es) → AllByRecursion (λ y. text_cmp x y ≡ Less) (mapped (λ (e : Text × Unit {0}). e.0) es)
keys_below x [] h = tt
keys_below x (e ∷ es) h = (less (text_cmp x e.0) (t_first _ _ h), keys_below x es (t_second _ _ h))

sorted_keys : (es : List (Text × Unit {0})) → T (is_sorted text_cmp es) → IsStrictlySortedBy text_cmp (mapped (λ (e : Text × Unit {0}). e.0) es)
unfolding IsStrictlySortedBy
sorted_keys [] h = tt
sorted_keys (e ∷ es) h = (keys_below e.0 es (t_first _ _ h), sorted_keys es (t_second _ _ h))

names_got : (more : List Text) (names : NameSet) (q : Text) → map.get (with_names names more) q ≡ cond (list_any (eq_by_cmp text_cmp q) more) (Some tt) (map.get names q)
names_got [] names q = refl
names_got (x ∷ more) names q =
    names_got more (map.insert names x tt) q ∙ ap (λ got. cond (list_any (eq_by_cmp text_cmp q) more) (Some tt) got) (map.get-insert nat_list_cmp_total names x tt q)
    ∙ go (list_any (eq_by_cmp text_cmp q) more) (eq_by_cmp text_cmp q x)
  where
    go : (a b : Bool) → cond a (Some tt) (cond b (Some tt) (map.get names q)) ≡ cond (b || a) (Some tt) (map.get names q)
    go true true = refl
    go true false = refl
    go false true = refl
    go false false = refl

no_names : NameSet
no_names = map.empty

module _ (keep : Bool) (to : List Text) (names : AreTargets to) where
  abbrev all : NameSet
  all = with_names map.empty (names_for keep to)

  among : (k : Bool) (q : Text) → list_any (eq_by_cmp text_cmp q) (names_for k to) ≡ ((k && eq_by_cmp text_cmp q local) || list_any (eq_by_cmp text_cmp q) to)
  among true q = refl
  among false q = refl

  seen : (q : Text) → map.get all q ≡ present ((keep && eq_by_cmp text_cmp q local) || list_any (eq_by_cmp text_cmp q) to)
  seen q =
      names_got (names_for keep to) map.empty q ∙ ap (λ got. cond (list_any (eq_by_cmp text_cmp q) (names_for keep to)) (Some tt) got) (map.get-empty text_cmp q)
      ∙ ap present (among keep q)

  table : (k e a : Bool) → is_some (cond e None (present ((k && e) || a))) ≡ (not e && a)
  table true true a = refl
  table true false true = refl
  table true false false = refl
  table false true a = refl
  table false false true = refl
  table false false false = refl

  others : (q : Text) → map.contains_key (map.remove all local) q ≡ (not (eq_by_cmp text_cmp q local) && list_any (eq_by_cmp text_cmp q) to)
  others q =
      ap is_some (map.get-remove nat_list_cmp_total all local q ∙ ap (λ got. cond (eq_by_cmp text_cmp q local) None got) (seen q))
      ∙ table keep (eq_by_cmp text_cmp q local) (list_any (eq_by_cmp text_cmp q) to)

  second : (e a : Bool) → (not e && a) ≡ true → a ≡ true
  second true a h = absurd (true≢false (sym h))
  second false a h = h

  no_mark : (q : Text) (b : Bool) → eq_by_cmp text_cmp q local ≡ b → Contains to q → (not b && list_any (eq_by_cmp text_cmp q) to) ≡ true
  no_mark q true is has = absurd (names.1 (subst (λ t. Contains to t) (exact_bytes q local (equal _ is)) has))
  no_mark q false is has = any_here q to has

  pub its_targets : map.keys (map.remove all local) ≡ to
  its_targets = one_list (map.keys (map.remove all local)) to (sorted_keys (map.entries (map.remove all local)) (map.entries_sorted (map.remove all local))) names.0 (λ q. (
    λ h. in_list q to (second (eq_by_cmp text_cmp q local) (list_any (eq_by_cmp text_cmp q) to) (sym (others q) ∙ (keys_hold (map.remove all local) q).0 h)),
    λ h. (keys_hold (map.remove all local) q).1 (others q ∙ no_mark q (eq_by_cmp text_cmp q local) refl h),
  ))

  marked : (k b : Bool) → list_any (eq_by_cmp text_cmp local) to ≡ b → is_some (present ((k && true) || list_any (eq_by_cmp text_cmp local) to)) ≡ k
  marked true b is = refl
  marked false true is = absurd (names.1 (in_list local to is))
  marked false false is = ap (λ b. is_some (present b)) is

  pub it_keeps : map.contains_key all local ≡ keep
  it_keeps =
      ap is_some (seen local ∙ ap (λ b. present ((keep && b) || list_any (eq_by_cmp text_cmp local) to)) (mark_itself local))
      ∙ marked keep (list_any (eq_by_cmp text_cmp local) to) refl

-- ---- the lines that were there

other_number : (n m : ℕ) (v : Value) → v ≡ Int (pos m) → m < n → (n == number_in v) ≡ false
other_number n m v is below = ap (λ x. n == number_in x) is ∙ ne_eqb n m (λ e. omega (arith, e, below))

module _ (targets others : List Row) (n : ℕ) (names : (m : ℕ) → (n == m) ≡ false → names_in others m ≡ names_in targets m) where
  one_line_same : (row : Row) → (m : ℕ) × (rowid row ≡ Int (pos m)) × (m < n) → line_in others row ≡ line_in targets row
  one_line_same row below =
      let same = names (number_in (rowid row)) (other_number n below.0 (rowid row) below.1 below.2) in λ i.
      line_by (number_in (column row 2)) (text_in (column row 3)) (instance_in row) (text_in (column row 4)) (text_in (column row 5)) (outcome_in (column row 6)) (number_in (column row 7))
      (map.keys (map.remove (same i) local)) (map.contains_key (same i) local)

  numbered_same : (rows : List Row) → AreBelow n rows → mapped (numbered_line others) rows ≡ mapped (numbered_line targets) rows
  numbered_same [] below = refl
  numbered_same (row ∷ rows) below = λ i. (number_in (rowid row), one_line_same row below.0 i) ∷ numbered_same rows below.1 i

  lines_same : (rows : List Row) → AreBelow n rows → lines_in others rows ≡ lines_in targets rows
  lines_same rows below = ap (λ es. map.values (map.from_entries {R = nat_cmp} es)) (numbered_same rows below)

-- ---- the items

taken_is : (how : Taking) (items : FinMap text_cmp Instance) (item : Instance) → IsKnownFor how item (map.get items item.uid)
    → items_taken how items item ≡ map.insert items item.uid (unwrap_or (map.get items item.uid) item)
taken_is taking.New items item known = ap (λ o. map.insert items item.uid (unwrap_or o item)) (sym known)
taken_is taking.Bare items item known = ap (λ o. map.insert items item.uid (unwrap_or o item)) (sym known)
taken_is taking.Again items item known = sym (same_put items item.uid item known) ∙ ap (λ o. map.insert items item.uid (unwrap_or o item)) (sym known)
taken_is taking.Nothing items item known = sym (same_put items item.uid item known) ∙ ap (λ o. map.insert items item.uid (unwrap_or o item)) (sym known)

-- ---- the book

same_number : (n : ℕ) → (n == n) ≡ true
same_number n = eq-eqb n n refl

pub arrivals_arrive : ArrivalsArrive
arrivals_arrive how old new n moment caller item body to keep below ahead known names w =
    let others : (m : ℕ) → (n == m) ≡ false → names_in (new 12) m ≡ names_in (old 12) m = λ m is. w.targets m ∙ ap (λ b. cond b (with_names (names_in (old 12) m) (names_for keep to)) (names_in (old 12) m)) is in
    let its : names_in (new 12) n ≡ with_names map.empty (names_for keep to) =
    w.targets n ∙ ap (λ b. cond b (with_names (names_in (old 12) n) (names_for keep to)) (names_in (old 12) n)) (same_number n)
    ∙ ap (λ (s : NameSet). with_names s (names_for keep to)) (ahead n (omega arith)) in
    let lines : lines_of new ≡ lines_of old ++ Arrival caller item to keep ∷ [] =
    ap (λ rows. lines_in (new 12) rows) w.journal ∙ lines_put (new 12) n _ (old 11) below
    ∙ (λ i. lines_same (old 12) (new 12) n others (old 11) below i
    ++ Arrival caller (came item n moment 0 caller i) ((ap (λ (s : NameSet). map.keys (map.remove s local)) its ∙ its_targets keep to names) i) ((ap (λ (s : NameSet). map.contains_key s local) its ∙ it_keeps keep to names) i) ∷ []) in
    λ i. record {
      items = (w.items ∙ taken_is how (items_of old) item known) i;
      arrivals = w.arrivals i;
      kept = (w.kept ∙ kept_once (all_kept_in (old 7)) item.uid keep) i;
      rows = (w.rows ∙ rows_fresh (rows_of old) item.uid to) i;
      lines = lines i;
    }

-- ---- the data sets

module _ (b : Book) (caller : Text) (item : Instance) (cell : List ℕ) (to : List Text) (keep : Bool) where
  abbrev made : Book
  made = after (Arrival caller item to keep) b

  needed_still : (uid : Text) → IsNeeded b uid → IsNeeded made uid
  needed_still uid needed = elim needed [
    | inl kept ↦ inl (still_kept keep b.kept item.uid uid kept)
    | inr row ↦ inr (row.0, row.1, queued_stays to b.rows item.uid (uid, row.0) row.1 row.2 row.3, row.3)
  ]

  needed_before : (uid : Text) → (uid ≡ item.uid → ⊥) → IsNeeded made uid → IsNeeded b uid
  needed_before uid other needed = elim needed [
    | inl kept ↦ elim (kept_from keep b.kept item.uid uid kept) [
      | inl was ↦ inl was
      | inr is ↦ absurd (other is.0)
    ]
    | inr row ↦ elim (row_came to b.rows item.uid (uid, row.0) row.1 row.2) [
      | inl was ↦ inr (row.0, row.1, was, row.3)
      | inr is ↦ absurd (other is.0)
    ]
  ]

  abbrev IsThere : Bodies → Text → Type 0
  IsThere bodies uid = (body : List ℕ) × (map.get bodies uid ≡ Some body)

  same_thing : (x : Bodies) (bodies : Bodies) (q : Text) → map.get x q ≡ map.get bodies q → (q ≡ item.uid → ⊥) → HasCells b bodies → IsThere x q ↔ IsNeeded made q
  same_thing x bodies q same other has = (
    λ there. needed_still q ((has.there q).0 (there.0, sym same ∙ there.1)),
    λ needed. let it = (has.there q).1 (needed_before q other needed) in (it.0, same ∙ it.1),
  )

  -- elsewhere all is as it was
  elsewhere : (how : Taking) (bodies : Bodies) (q : Text) → eq_by_cmp text_cmp q item.uid ≡ false → map.get (bodies_taken how bodies item.uid cell) q ≡ map.get bodies q
  elsewhere taking.New bodies q other = get_other texts bodies item.uid cell q other
  elsewhere taking.Bare bodies q other = refl
  elsewhere taking.Again bodies q other = get_other texts bodies item.uid cell q other
  elsewhere taking.Nothing bodies q other = refl

  -- and here it is where it is needed
  here : (how : Taking) (bodies : Bodies) → HasCells b bodies → ComesWhereNeeded how made bodies item.uid → IsThere (bodies_taken how bodies item.uid cell) item.uid ↔ IsNeeded made item.uid
  here taking.New bodies has comes = (λ there. comes, λ needed. (cell, get_new texts bodies item.uid cell))
  here taking.Bare bodies has comes = (λ there. needed_still item.uid ((has.there item.uid).0 there), λ needed. absurd (comes needed))
  here taking.Again bodies has comes = (λ there. comes, λ needed. (cell, get_new texts bodies item.uid cell))
  here taking.Nothing bodies has comes = (λ there. needed_still item.uid ((has.there item.uid).0 there), λ needed. comes needed)

  apart : (q : Text) → eq_by_cmp text_cmp q item.uid ≡ false → q ≡ item.uid → ⊥
  apart q other same = true≢false (sym (ties_itself texts item.uid) ∙ ap (λ x. eq_by_cmp text_cmp x item.uid) (sym same) ∙ other)

  come : (how : Taking) (bodies : Bodies) → HasCells b bodies → ComesWhereNeeded how made bodies item.uid → HasCells made (bodies_taken how bodies item.uid cell)
  come how bodies has comes =
      let now = bodies_taken how bodies item.uid cell in
      record {
        there = λ q. elim (same_or_not texts q item.uid) [
          | inl e ↦ subst (λ x. IsThere now x ↔ IsNeeded made x) (sym e) (here how bodies has comes)
          | inr other ↦ same_thing now bodies q (elsewhere how bodies q other) (apart q other) has
        ];
      }

pub data_sets_come : DataSetsCome
data_sets_come how b caller item cell to keep cells has comes = come b caller item cell to keep how cells has comes
