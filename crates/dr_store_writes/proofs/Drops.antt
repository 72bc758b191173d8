-- What DELETE takes out: just the rows that its query finds.
use Rattle.std.proofs.Common.{◌≡◌, ◌≢◌, ◌<◌, inl, inr, ℕ, zero, suc, ℤ, pos, List, [], ◌∷◌, map, filter, Bool, true, false, not, ◌&&◌, ◌||◌, cond, Option, Some, None, Ok, Err, Result, OnOk, IsTrue, refl, sym, ap, subst, ◌∙◌, true≢false, arith}
use Rattle.std.specs.FinMap as fin
use Rattle.std.specs.FinMap.{find}
use Rattle.std.specs.List.{AllByRecursion, list_any}
use Rattle.std.specs.List.Sorted.{IsPermutation}
use Rattle.std.specs.Ordering.{eq_by_cmp, is_eq}
use Rattle.std.proofs.lemmas.Cmp.{tied_itself}
use Rattle.std.proofs.lemmas.List.Sorted.{IsPermutation-map, IsPermutation-sym}
use Rattle.sqlite.specs.declared.error.Error.{Error}
use Rattle.sqlite.specs.declared.types.Value.TheVariants.{Int}
use Rattle.sqlite.specs.Order.{Row, column, value_cmp}
use Rattle.sqlite.specs.Program.{overlay}
use Rattle.sqlite.specs.Query.{IsAnswer, Output, Query, output}
use Rattle.sqlite.specs.State.{State, ExecutesInside}
use Rattle.sqlite.specs.Term.{Term}
use Rattle.sqlite.specs.Tree.{Trees, rowid, has_rowid, without_rowid, IsAscending}
use Rattle.sqlite_rules.specs.Calls.{ids_of}
use Rattle.sqlite_rules.specs.Edit.{id_in, without_all}
use Rattle.sqlite_rules.specs.Lists.{Has}
use Rattle.sqlite_rules.proofs.ListLemmas.{all_has}
use Rattle.sqlite_sql.specs.declared.ops.CompareOp.TheVariants.{Ge}
use Rattle.sqlite_trees.specs.View.{is_int}
use Rattle.sqlite_trees.proofs.ListLemmas.{all-filter, all-map, all-permutation, all_from_map, all_of, all_weaker, filter_all, filter_none}
use Rattle.sqlite_value.proofs.OrderLemmas.{value_cmp_total}
use Rattle.dr_ledger.specs.declared.item.Progress.{Progress}
use Rattle.dr_ledger.specs.Books.{is_over_row, not_over}
use Rattle.dr_ledger.specs.Pairs.{Pair, pair_cmp}
use Rattle.dr_store_schema.specs.Books.{entry_in, rows_in}
use Rattle.dr_store_schema.specs.Ledgers.{AreRows, IsCounted, IsLedger}
use Rattle.dr_store_schema.specs.Statements as text
use Rattle.dr_store_schema.specs.Tables as table
use Rattle.dr_store_writes.specs.Effects.{DropsArrivals, DropsOver}
use Rattle.dr_store_writes.proofs.Commands as command
use Rattle.dr_store_writes.proofs.Commands.{over}
use Rattle.dr_store_writes.proofs.Inserted.{ledger_of}
use Rattle.dr_store_writes.proofs.Keys.{all_both, int_test, none_of, pairs_exact, pairs_total, queue_apart}
use Rattle.dr_store_writes.proofs.Maps as maps
use Rattle.dr_store_writes.proofs.Maps.{rows_without}
use Rattle.dr_store_writes.proofs.Updated.{arrivals_dropped, deleted, hits, matched, rows_dropped}

-- ---- lists

both_tests : {X : Type 0} (p q : X → Bool) (xs : List X) → filter q (filter p xs) ≡ filter (λ x. p x && q x) xs
both_tests p q [] = refl
both_tests p q (x ∷ xs) = go (p x) (both_tests p q xs)
  where
    go : (a : Bool) → filter q (filter p xs) ≡ filter (λ y. p y && q y) xs
        → filter q (cond a (x ∷ filter p xs) (filter p xs)) ≡ cond (a && q x) (x ∷ filter (λ y. p y && q y) xs) (filter (λ y. p y && q y) xs)
    go true later = ap (λ ys. cond (q x) (x ∷ ys) ys) later
    go false later = later

pub same_tests : {X : Type 0} (p q : X → Bool) (xs : List X) → AllByRecursion (λ x. p x ≡ q x) xs → filter p xs ≡ filter q xs
same_tests p q [] h = refl
same_tests p q (x ∷ xs) h = λ i. cond (h.0 i) (x ∷ same_tests p q xs h.1 i) (same_tests p q xs h.1 i)

map_twice : {X Y Z : Type 0} (f : X → Y) (g : Y → Z) (xs : List X) → map g (map f xs) ≡ map (λ x. g (f x)) xs
map_twice f g [] = refl
map_twice f g (x ∷ xs) = ap (λ zs. g (f x) ∷ zs) (map_twice f g xs)

members : {X : Type 0} (xs : List X) → AllByRecursion (Has xs) xs
members [] = tt
members (x ∷ xs) = (inl refl, all_weaker (Has xs) (Has (x ∷ xs)) (λ y h. inr h) xs (members xs))

-- what holds of each pair of two, either way round, and of each with itself holds of all pairs
every_pair : {X : Type 0} (P : X → X → Type 0) → ((x : X) → P x x) → (xs : List X) → IsAscending (λ a b. P a b × P b a) xs → AllByRecursion (λ a. AllByRecursion (P a) xs) xs
every_pair P itself [] h = tt
every_pair P itself (x ∷ xs) h = (
  (itself x, all_weaker (λ b. P x b × P b x) (P x) (λ b h. h.0) xs h.0),
  all_both (λ b. P x b × P b x) (λ a. AllByRecursion (P a) xs) (λ a. AllByRecursion (P a) (x ∷ xs)) (λ a p q. (p.1, q)) xs h.0 (every_pair P itself xs h.1),
)

module _ {X : Type 0} (hit : X → Bool) (Q : X → Type 0) where
  passed : (xs : List X) → AllByRecursion (λ x. hit x ≡ true → Q x) xs → AllByRecursion Q (filter hit xs)
  passed [] h = tt
  passed (x ∷ xs) h = go (hit x) refl (passed xs h.1)
    where
      go : (b : Bool) → hit x ≡ b → AllByRecursion Q (filter hit xs) → AllByRecursion Q (cond b (x ∷ filter hit xs) (filter hit xs))
      go true is later = (h.0 is, later)
      go false is later = later

  each_passed : (xs : List X) → AllByRecursion Q (filter hit xs) → AllByRecursion (λ x. hit x ≡ true → Q x) xs
  each_passed [] h = tt
  each_passed (x ∷ xs) h = go (hit x) refl h (each_passed xs)
    where
      go : (b : Bool) → hit x ≡ b → AllByRecursion Q (cond b (x ∷ filter hit xs) (filter hit xs)) → (AllByRecursion Q (filter hit xs) → AllByRecursion (λ y. hit y ≡ true → Q y) xs)
          → AllByRecursion (λ y. hit y ≡ true → Q y) (x ∷ xs)
      go true is h later = (λ _. h.0, later h.1)
      go false is h later = (λ missed. absurd (true≢false (sym missed ∙ is)), later h)

-- ---- rows by their rowids

nor : (a b : Bool) → (not a && not b) ≡ not (a || b)
nor true b = refl
nor false b = refl

-- the row has one of these rowids
abbrev is_gone : List ℤ → Row → Bool
is_gone ids r = list_any (λ id. has_rowid id r) ids

left_over : (ids : List ℤ) (rows : List Row) → without_all rows ids ≡ filter (λ r. not (is_gone ids r)) rows
left_over [] rows = sym (filter_all (λ r. true) rows (all_of (λ (r : Row). ◌≡◌ {A = Bool} true true) (λ r. refl) rows))
left_over (id ∷ ids) rows =
    left_over ids (without_rowid id rows) ∙ both_tests (λ r. not (has_rowid id r)) (λ r. not (is_gone ids r)) rows
    ∙ same_tests (λ r. not (has_rowid id r) && not (is_gone ids r)) (λ r. not (is_gone (id ∷ ids) r)) rows
    (all_of (λ r. (not (has_rowid id r) && not (is_gone ids r)) ≡ not (is_gone (id ∷ ids) r)) (λ r. nor (has_rowid id r) (is_gone ids r)) rows)

abbrev number_of : Row → ℤ
number_of r = id_in (rowid r)

its_own : (r : Row) → IsTrue (is_int (rowid r)) → has_rowid (number_of r) r ≡ true
its_own r int = let v = maps.an_int (rowid r) int in ap (λ x. is_eq (value_cmp x (Int (id_in x)))) v.1 ∙ ap is_eq (tied_itself value_cmp_total (Int v.0))

others_not : (a b : Row) → IsTrue (is_int (rowid a)) → IsTrue (is_int (rowid b)) → rowid a ≢ rowid b → has_rowid (number_of b) a ≡ false
others_not a b int_a int_b apart =
    let v = maps.an_int (rowid a) int_a in
    let w = maps.an_int (rowid b) int_b in
    ap (λ x. is_eq (value_cmp (rowid a) (Int (id_in x)))) w.1 ∙ maps.not_this (rowid a) w.0 v.0 v.1 (λ same. apart (v.1 ∙ ap Int same ∙ sym w.1))

module _ (hit : Row → Bool) where
  -- a row that isn't hit, and one that is
  abbrev AreTwo : Row → Row → Type 0
  AreTwo a b = hit a ≡ false → hit b ≡ true → has_rowid (number_of b) a ≡ false

  two_ways : (rows : List Row) → IsAscending (λ a b. rowid a ≢ rowid b) rows → AllByRecursion (λ r. IsTrue (is_int (rowid r))) rows → IsAscending (λ a b. AreTwo a b × AreTwo b a) rows
  two_ways [] apart ints = tt
  two_ways (r ∷ rows) apart ints = (
    all_both (λ x. rowid r ≢ rowid x) (λ x. IsTrue (is_int (rowid x))) (λ x. AreTwo r x × AreTwo x r)
        (λ x other int. (λ _ _. others_not r x ints.0 int other, λ _ _. others_not x r int ints.0 (λ e. other (sym e)))) rows apart.0 ints.1,
    two_ways rows apart.1 ints.1,
  )

  module _ (rows : List Row) (ints : AllByRecursion (λ r. IsTrue (is_int (rowid r))) rows) (ids : List ℤ) (same : IsPermutation (map number_of (filter hit rows)) ids) where
    found : (r : Row) → Has rows r → hit r ≡ true → (b : Bool) → is_gone ids r ≡ b → b ≡ true
    found r among is true e = refl
    found r among is false e =
        let none : AllByRecursion (λ x. has_rowid (number_of x) r ≡ false) (filter hit rows) =
        all_from_map (λ id. has_rowid id r ≡ false) number_of (filter hit rows)
        (all-permutation (λ id. has_rowid id r ≡ false) ids (map number_of (filter hit rows)) (IsPermutation-sym _ _ same) (none_of (λ id. has_rowid id r) ids e)) in
        let mine : has_rowid (number_of r) r ≡ false = all_has (λ x. hit x ≡ true → has_rowid (number_of x) r ≡ false) rows r (each_passed hit (λ x. has_rowid (number_of x) r ≡ false) rows none) among is in
        absurd (true≢false (sym (its_own r (all_has (λ x. IsTrue (is_int (rowid x))) rows r ints among)) ∙ mine))

  module _ (rows : List Row) (are : AreRows rows) (ids : List ℤ) (same : IsPermutation (map number_of (filter hit rows)) ids) where
    missed : (r : Row) → AllByRecursion (AreTwo r) rows → hit r ≡ false → is_gone ids r ≡ false
    missed r two is =
        none_any (λ id. has_rowid id r) ids
        (all-permutation (λ id. has_rowid id r ≡ false) (map number_of (filter hit rows)) ids same
        (all-map (λ id. has_rowid id r ≡ false) number_of (filter hit rows) (passed hit (λ x. has_rowid (number_of x) r ≡ false) rows (all_weaker (AreTwo r) (λ x. hit x ≡ true → has_rowid (number_of x) r ≡ false) (λ x h. h is) rows two))))
      where
        none_any : {X : Type 0} (p : X → Bool) (xs : List X) → AllByRecursion (λ x. p x ≡ false) xs → list_any p xs ≡ false
        none_any p [] h = refl
        none_any p (x ∷ xs) h = ap (λ b. b || list_any p xs) h.0 ∙ none_any p xs h.1

    gone_as_hit : (r : Row) → AllByRecursion (AreTwo r) rows → Has rows r → (b : Bool) → hit r ≡ b → is_gone ids r ≡ b
    gone_as_hit r two among true is = found rows are.ints ids same r among is (is_gone ids r) refl
    gone_as_hit r two among false is = missed r two is

    -- the rows of these rowids are those that are hit
    pub left_alone : without_all rows ids ≡ filter (λ r. not (hit r)) rows
    left_alone =
        left_over ids rows
        ∙ same_tests (λ r. not (is_gone ids r)) (λ r. not (hit r)) rows
        (all_both (λ r. AllByRecursion (AreTwo r) rows) (Has rows) (λ r. not (is_gone ids r) ≡ not (hit r)) (λ r two among. ap not (gone_as_hit r two among (hit r) refl)) rows
        (every_pair AreTwo (λ x a b. absurd (true≢false (sym b ∙ a))) rows (two_ways rows are.apart are.ints)) (members rows))

none_left : (rows : List Row) → filter (λ (r : Row). false) rows ≡ []
none_left rows = filter_none (λ r. false) rows (all_of (λ (r : Row). ◌≡◌ {A = Bool} false false) (λ r. refl) rows)

-- where all rows are hit, none is left, whether or not their rowids differ
pub all_gone : (rows : List Row) → AllByRecursion (λ r. IsTrue (is_int (rowid r))) rows → (ids : List ℤ) → IsPermutation (map number_of (filter (λ r. true) rows)) ids → without_all rows ids ≡ []
all_gone rows ints ids same =
    left_over ids rows
    ∙ same_tests (λ r. not (is_gone ids r)) (λ r. false) rows
    (all_weaker (Has rows) (λ r. not (is_gone ids r) ≡ false) (λ r among. ap not (found (λ r. true) rows ints ids same r among refl (is_gone ids r) refl)) rows (members rows))
    ∙ none_left rows

-- the rowids that a query answers are those of the rows that it finds
module _ (tree : ℕ) (conditions : List Term) (db : Trees) (params : Row) (rows : List Row) (answer : IsAnswer (over tree conditions command.dropped_shown) (overlay db []) params rows)
    (staged : answer.staged ≡ map (λ r. params ∷ r ∷ []) (filter (hits conditions params) (db tree))) where
  abbrev q : Query
  q = over tree conditions command.dropped_shown

  abbrev id_out : Output → ℤ
  id_out o = number_of o.1

  answered_ids : IsPermutation (map id_out (map (λ r. output q (params ∷ r ∷ [])) (filter (hits conditions params) (db tree)))) (map id_out answer.ordered)
      → IsPermutation (map number_of (filter (hits conditions params) (db tree))) (ids_of rows)
  answered_ids h =
      subst (λ xs. IsPermutation (map number_of (filter (hits conditions params) (db tree))) xs) (sym (map_twice (λ (o : Output). o.1) number_of answer.ordered) ∙ ap ids_of (sym answer.shown))
      (subst (λ xs. IsPermutation xs (map id_out answer.ordered)) (map_twice (λ r. output q (params ∷ r ∷ [])) id_out (filter (hits conditions params) (db tree))) h)

  pub dropped_ids : IsPermutation (map number_of (filter (hits conditions params) (db tree))) (ids_of rows)
  dropped_ids = answered_ids (IsPermutation-map id_out _ answer.ordered (subst (λ k. IsPermutation k answer.ordered)
      (answer.distinct ∙ ap (map (output q)) staged ∙ map_twice (λ r. params ∷ r ∷ []) (output q) (filter (hits conditions params) (db tree))) answer.same))

-- ---- an adoption

drops_arrivals : (old new : State) (count : ℕ) → IsLedger old.now → ExecutesInside 0 text.drop_arrivals [] old new (Ok count) → DropsArrivals old new
drops_arrivals old new count has h =
    let db = old.now.trees in
    let d = deleted old new text.drop_arrivals [] 3 5 [] command.dropped_shown table.arrival_table count has.schema command.drop_arrivals.0 command.drop_arrivals.1 refl h in
    let staged = d.1.grouped ∙ matched (hits [] []) (λ r. [] ∷ r ∷ []) (db 5) in
    let it = arrivals_dropped old new (ids_of d.0) d.2 in
    let none : new.now.trees 5 ≡ [] = it.0 ∙ left_alone (hits [] []) (db 5) has.arrivals (ids_of d.0) (dropped_ids 5 [] db [] d.0 d.1 staged) ∙ none_left (db 5) in
    record {
      goes_on = ledger_of 5 old new has d.2.schema d.2.sound d.2.shown it.1 (inl (omega arith)) (inl (omega arith)) (inr refl) (inl (omega arith))
          (λ was. subst AreRows (sym none) (record { apart = tt; ints = tt })) (λ e. absurd (omega (arith, e)));
      rows = none;
      others = it.1;
    }

pub arrivals_dropped_all : (old new : State) (r : Result ℕ Error) → IsLedger old.now → ExecutesInside 0 text.drop_arrivals [] old new r → OnOk r (DropsArrivals old new)
arrivals_dropped_all old new (Ok count) has h = drops_arrivals old new count has h
arrivals_dropped_all old new (Err e) has h = tt

abbrev hits_over : Row → Bool
hits_over = hits command.is_over []

-- of a row with a ledger's numbers the test says whether it is over
over_hit : (row : Row) → IsCounted row → hits_over row ≡ is_over_row (Some (entry_in row).1)
over_hit row is = go is.state is.known is.state_is
  where
    go : (n : ℕ) → n < 4 → column row 3 ≡ Int (pos n) → hits_over row ≡ is_over_row (Some (entry_in row).1)
    go zero known e = rw (e, int_test Ge (pos 0) (pos 2))
    go (suc zero) known e = rw (e, int_test Ge (pos 1) (pos 2))
    go (suc (suc zero)) known e = rw (e, int_test Ge (pos 2) (pos 2))
    go (suc (suc (suc zero))) known e = rw (e, int_test Ge (pos 3) (pos 2))
    go (suc (suc (suc (suc more)))) known e = absurd (omega (arith, known))

abbrev kept_row : Row → Bool
kept_row r = not (hits_over r)

cond_none : (b : Bool) → ◌≡◌ {A = Option Progress} (cond (not b) None None) None
cond_none true = refl
cond_none false = refl

-- what is found among the rows that stay
found_left : (q : Pair) (rows : List Row) → AllByRecursion IsCounted rows → maps.AreApart entry_in rows
    → find pair_cmp q (map entry_in (filter kept_row rows)) ≡ cond (not (is_over_row (find pair_cmp q (map entry_in rows)))) (find pair_cmp q (map entry_in rows)) None
found_left q [] counted apart = refl
found_left q (r ∷ rows) counted apart = go (eq_by_cmp pair_cmp q (entry_in r).0) refl (hits_over r) refl (found_left q rows counted.1 apart.1)
  where
    Goal : Bool → Bool → Type 0
    Goal same done = find pair_cmp q (map entry_in (cond (not done) (r ∷ filter kept_row rows) (filter kept_row rows)))
        ≡ cond (not (is_over_row (cond same (Some (entry_in r).1) (find pair_cmp q (map entry_in rows))))) (cond same (Some (entry_in r).1) (find pair_cmp q (map entry_in rows))) None

    -- no later row has its key
    none_later : eq_by_cmp pair_cmp q (entry_in r).0 ≡ true → find pair_cmp q (map entry_in rows) ≡ None
    none_later same = none_found rows (all_weaker (λ x. (entry_in r).0 ≢ (entry_in x).0) (λ x. eq_by_cmp pair_cmp q (entry_in x).0 ≡ false) (λ x other. unlike x other (eq_by_cmp pair_cmp q (entry_in x).0) refl) rows apart.0)
      where
        unlike : (x : Row) → (entry_in r).0 ≢ (entry_in x).0 → (b : Bool) → eq_by_cmp pair_cmp q (entry_in x).0 ≡ b → eq_by_cmp pair_cmp q (entry_in x).0 ≡ false
        unlike x other true e = absurd (other (sym (pairs_exact q (entry_in r).0 (maps.equal _ same)) ∙ pairs_exact q (entry_in x).0 (maps.equal _ e)))
        unlike x other false e = e

        none_found : (xs : List Row) → AllByRecursion (λ x. eq_by_cmp pair_cmp q (entry_in x).0 ≡ false) xs → find pair_cmp q (map entry_in xs) ≡ None
        none_found [] h = refl
        none_found (x ∷ xs) h = ap (λ b. cond b (Some (entry_in x).1) (find pair_cmp q (map entry_in xs))) h.0 ∙ none_found xs h.1

    go : (same : Bool) → eq_by_cmp pair_cmp q (entry_in r).0 ≡ same → (done : Bool) → hits_over r ≡ done
        → find pair_cmp q (map entry_in (filter kept_row rows)) ≡ cond (not (is_over_row (find pair_cmp q (map entry_in rows)))) (find pair_cmp q (map entry_in rows)) None
        → Goal same done
    go true same true done later =
        later ∙ ap (λ f. cond (not (is_over_row f)) f None) (none_later same)
        ∙ sym (ap (λ b. cond (not b) (Some (entry_in r).1) None) (sym (over_hit r counted.0) ∙ done))
    go true same false done later =
        ap (λ b. cond b (Some (entry_in r).1) (find pair_cmp q (map entry_in (filter kept_row rows)))) same
        ∙ sym (ap (λ b. cond (not b) (Some (entry_in r).1) None) (sym (over_hit r counted.0) ∙ done))
    go false same true done later = later
    go false same false done later = ap (λ b. cond b (Some (entry_in r).1) (find pair_cmp q (map entry_in (filter kept_row rows)))) same ∙ later

stays_open : (rows : List Row) → AllByRecursion IsCounted rows → maps.AreApart entry_in rows → rows_in (filter kept_row rows) ≡ not_over (rows_in rows)
stays_open rows counted apart = fin.same_map pairs_total pairs_exact _ _ (λ q.
    fin.get-from_entries pairs_total (map entry_in (filter kept_row rows)) q ∙ found_left q rows counted apart
    ∙ ap (λ f. cond (not (is_over_row f)) f None) (sym (fin.get-from_entries pairs_total (map entry_in rows) q))
    ∙ sym (fin.get-retain_keys (rows_in rows) (λ at. not (is_over_row (fin.get (rows_in rows) at))) q (λ x same. ap (λ at. not (is_over_row (fin.get (rows_in rows) at))) (sym (pairs_exact q x same)))))

drops_over : (old new : State) (count : ℕ) → IsLedger old.now → ExecutesInside 0 text.drop_over [] old new (Ok count) → DropsOver old new
drops_over old new count has h =
    let db = old.now.trees in
    let d = deleted old new text.drop_over [] 5 9 command.is_over command.dropped_shown table.queue_table count has.schema command.drop_over.0 command.drop_over.1 refl h in
    let staged = d.1.grouped ∙ matched hits_over (λ r. [] ∷ r ∷ []) (db 9) in
    let it = rows_dropped old new (ids_of d.0) d.2 in
    let stay : new.now.trees 9 ≡ filter kept_row (db 9) = it.0 ∙ left_alone hits_over (db 9) has.queue (ids_of d.0) (dropped_ids 9 command.is_over db [] d.0 d.1 staged) in
    record {
      goes_on = ledger_of 9 old new has d.2.schema d.2.sound d.2.shown it.1 (inl (omega arith)) (inl (omega arith)) (inl (omega arith)) (inr refl)
          (λ was. subst AreRows (sym stay) (rows_without kept_row (db 9) was)) (λ nine was. subst (AllByRecursion IsCounted) (sym stay) (all-filter IsCounted kept_row (db 9) was));
      rows = ap rows_in stay ∙ stays_open (db 9) has.counted (queue_apart old.now has);
      others = it.1;
    }

pub over_dropped : (old new : State) (r : Result ℕ Error) → IsLedger old.now → ExecutesInside 0 text.drop_over [] old new r → OnOk r (DropsOver old new)
over_dropped old new (Ok count) has h = drops_over old new count has h
over_dropped old new (Err e) has h = tt
