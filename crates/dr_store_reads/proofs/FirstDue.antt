-- The rows of queue that are open, and the first one that is due.
use Rattle.std.proofs.Common.{◌≡◌, ◌≢◌, ◌↔◌, ◌==◌, ◌<◌, ◌≤◌, ◌^◌, inl, inr, ℕ, zero, suc, pos, List, [], ◌∷◌, map, filter, length, Bool, true, false, not, ◌&&◌, ◌||◌, cond, Some, All, IsTrue, refl, sym, ap, subst, ◌∙◌, arith, true≢false, ltb→lt, nat_abs}
use Rattle.std.specs.declared.cmp.Ordering.{Ordering}
use Rattle.std.specs.declared.cmp.Ordering.TheVariants.{Less, Equal, Greater}
use Rattle.std.specs.Ordering.{int_cmp, is_eq, is_le, is_lt, is_ne, nat_cmp, ordering_reverse, ordering_then, eq_by_cmp}
use Rattle.std.specs.Cmp.{IsStrictWeakOrder, IsTotalOrder, nat_cmp_is, ranked}
use Rattle.std.specs.Cmp.Lexicographic.{nat_list_cmp_total, slice_cmp}
use Rattle.std.specs.FinMap as fin
use Rattle.std.specs.FinMap.{find, get-from_entries}
use Rattle.std.specs.List.{AllByRecursion, list_any}
use Rattle.std.specs.List.Sorted.{IsPermutation, IsSorted}
use Rattle.std.proofs.lemmas.Cmp.{int_ranked, tied_itself}
use Rattle.std.proofs.lemmas.List.Elements.{All-from_recursion, recursion_from_All}
use Rattle.std.proofs.lemmas.List.Sorted.{All-permutation, IsPermutation-sym, length_permutation, sorted_far}
use Rattle.std.proofs.lemmas.Map.Lookups.{exact_bytes}
use Rattle.sqlite.specs.declared.types.Value.TheVariants.{Int, Null, Text as TextCell}
use Rattle.sqlite.specs.Order.{Row, column, value_cmp}
use Rattle.sqlite.specs.Program.{overlay}
use Rattle.sqlite.specs.Query.{IsAnswer, Output, output, output_cmp, page}
use Rattle.sqlite.specs.State.{State, Shown}
use Rattle.sqlite.specs.Tree.{Trees}
use Rattle.sqlite.proofs.Callers.{reads_as}
use Rattle.sqlite_rules.specs.Lists.{Has}
use Rattle.sqlite_rules.proofs.ListLemmas.{all_has}
use Rattle.sqlite.specs.Collation.TheVariants.{Binary}
use Rattle.sqlite_sql.specs.Ops.{binary, is_true, test}
use Rattle.sqlite_sql.specs.declared.ops.BinaryOp.TheVariants.{Compare}
use Rattle.sqlite_sql.specs.declared.ops.CompareOp.{CompareOp}
use Rattle.sqlite_sql.specs.declared.ops.CompareOp.TheVariants.{Eq, Le, Lt, Ne}
use Rattle.sqlite_sql.proofs.QueryLemmas.{output_cmp_total}
use Rattle.sqlite_trees.proofs.ListLemmas.{all_weaker}
use Rattle.sqlite_trees.proofs.TreeLemmas.{above, not_true}
use Rattle.sqlite_value.proofs.OrderLemmas.{value_cmp-Int, value_cmp-Text, then-Equal}
use Rattle.dr_base.specs.Texts.{Text, text_cmp}
use Rattle.dr_ledger.specs.declared.item.Cause.{Cause}
use Rattle.dr_ledger.specs.declared.item.Progress.{Progress}
use Rattle.dr_ledger.specs.declared.item.Progress.TheVariants.{Waiting}
use Rattle.dr_ledger.specs.Books.{is_queued}
use Rattle.dr_ledger.specs.Pairs.{Pair, pair_cmp}
use Rattle.dr_ledger.specs.Replies.{IsDue}
use Rattle.dr_store_schema.specs.Books.{book_of, entry_in, rows_of}
use Rattle.dr_store_schema.specs.Cells.{cause_in, due_of, number_in, progress_by, text_in}
use Rattle.dr_store_schema.specs.Ledgers.{IsCounted, IsLedger}
use Rattle.dr_store_schema.specs.Statements as text
use Rattle.dr_store_schema.specs.Tables.{tables}
use Rattle.dr_store_writes.proofs.Commands.{over}
use Rattle.dr_store_writes.proofs.Keys.{IsQueueRow, all_both, both, int_test, key_of, pairs_exact, pairs_total, queue_apart, queue_rows, same_text, truth_of}
use Rattle.dr_store_writes.proofs.Maps as maps
use Rattle.dr_store_writes.proofs.Maps.{AreApart}
use Rattle.dr_store_writes.proofs.Updated.{hits, matched}
use Rattle.dr_store_reads.specs.Queries.{HasOpen, IsFirstDue, IsOpenElsewhere, first_of, shown_text}
use Rattle.dr_store_reads.proofs.Points.{map_twice, none_shown}
use Rattle.dr_store_reads.proofs.Selects as select

-- ---- rows and entries

-- entries of a map come from rows
found_row : (q : Pair) (p : Progress) (rows : List Row) → find pair_cmp q (map entry_in rows) ≡ Some p → (row : Row) × Has rows row × ((entry_in row).0 ≡ q) × ((entry_in row).1 ≡ p)
found_row q p [] h = absurd cc
found_row q p (r ∷ rows) h = go (eq_by_cmp pair_cmp q (entry_in r).0) refl h (found_row q p rows)
  where
    go : (b : Bool) → eq_by_cmp pair_cmp q (entry_in r).0 ≡ b → cond b (Some (entry_in r).1) (find pair_cmp q (map entry_in rows)) ≡ Some p
        → (find pair_cmp q (map entry_in rows) ≡ Some p → (row : Row) × Has rows row × ((entry_in row).0 ≡ q) × ((entry_in row).1 ≡ p))
        → (row : Row) × Has (r ∷ rows) row × ((entry_in row).0 ≡ q) × ((entry_in row).1 ≡ p)
    go true is h later = (r, inl refl, sym (pairs_exact q (entry_in r).0 (maps.equal _ is)), same h)
      where
        same : {x y : Progress} → Some x ≡ Some y → x ≡ y
        same e = cc
    go false is h later = let it = later h in (it.0, inr it.1, it.2, it.3)

-- and rows give their entries
row_found : (rows : List Row) → AreApart entry_in rows → (row : Row) → Has rows row → find pair_cmp (entry_in row).0 (map entry_in rows) ≡ Some (entry_in row).1
row_found [] apart row h = absurd h
row_found (r ∷ rows) apart row (inl same) =
    ap (λ b. cond b (Some (entry_in r).1) (find pair_cmp (entry_in row).0 (map entry_in rows))) (ap (λ x. eq_by_cmp pair_cmp (entry_in x).0 (entry_in r).0) same ∙ ap is_eq (tied_itself pairs_total (entry_in r).0))
    ∙ ap (λ x. Some (entry_in x).1) (sym same)
row_found (r ∷ rows) apart row (inr later) =
    ap (λ b. cond b (Some (entry_in r).1) (find pair_cmp (entry_in row).0 (map entry_in rows)))
    (not_true (eq_by_cmp pair_cmp (entry_in row).0 (entry_in r).0)
    (λ h. all_has (λ x. (entry_in r).0 ≢ (entry_in x).0) rows row apart.0 later (sym (pairs_exact (entry_in row).0 (entry_in r).0 (maps.equal _ h)))))
    ∙ row_found rows apart.1 row later

in_map : (db : Trees) (q : Pair) → fin.get (rows_of db) q ≡ find pair_cmp q (map entry_in (db 9))
in_map db q = get-from_entries pairs_total (map entry_in (db 9)) q

-- ---- numbers

int_of_nat : (m n : ℕ) → int_cmp (pos m) (pos n) ≡ nat_cmp m n
int_of_nat m n = go (int_cmp (pos m) (pos n)) refl
  where
    go : (r : Ordering) → r ≡ int_cmp (pos m) (pos n) → int_cmp (pos m) (pos n) ≡ nat_cmp m n
    go Less e = sym e ∙ nat_cmp_is m n Less (ltb→lt m n (int_ranked (pos m) (pos n) Less e).lt)
    go Equal e = sym e ∙ nat_cmp_is m n Equal (ap nat_abs (int_ranked (pos m) (pos n) Equal e))
    go Greater e = sym e ∙ nat_cmp_is m n Greater (ltb→lt n m (int_ranked (pos m) (pos n) Greater e).lt)

-- a row of queue with a ledger's numbers
record IsOurs (row : Row) : Type 0 where
  queue : IsQueueRow row
  counted : IsCounted row

are_ours : (old : State) → IsLedger old.now → AllByRecursion IsOurs (old.now.trees 9)
are_ours old has = all_both IsQueueRow IsCounted IsOurs (λ row q n. record { queue = q; counted = n }) (old.now.trees 9) (queue_rows old.now has) has.counted

progress_of : (row : Row) (is : IsOurs row) → (entry_in row).1 ≡ progress_by is.counted.state (number_in (column row 4)) is.counted.due (cause_in (column row 6))
progress_of row is = rw (is.counted.state_is, is.counted.due_is)

pair_is : (at : Pair) (a b : Text) → at.0 ≡ a → at.1 ≡ b → (a, b) ≡ at
pair_is at a b p q = λ i. (sym p i, sym q i)

-- what is found at the key of a row
found_at : (old : State) → IsLedger old.now → (row : Row) → Has (old.now.trees 9) row → (is : IsOurs row) (a b : Text) → is.queue.at.0 ≡ a → is.queue.at.1 ≡ b
    → fin.get (rows_of old.now.trees) (a, b) ≡ Some (entry_in row).1
found_at old has row there is a b p q =
    in_map old.now.trees (a, b) ∙ ap (λ k. find pair_cmp k (map entry_in (old.now.trees 9))) (pair_is is.queue.at a b p q ∙ sym (key_of row is.queue))
    ∙ row_found (old.now.trees 9) (queue_apart old.now has) row there

text_test : (op : CompareOp) (s t : List ℕ) → is_true (binary (Compare op Binary) (TextCell s) (TextCell t)) ≡ test op (slice_cmp nat_cmp s t)
unfolding binary
text_test op s t = truth_of (test op (value_cmp (TextCell s) (TextCell t))) ∙ ap (test op) (value_cmp-Text s t)

-- ---- lists

some_passes : {X : Type 0} (p : X → Bool) (xs : List X) → list_any p xs ≡ true → (x : X) × Has xs x × (p x ≡ true)
some_passes p [] h = absurd cc
some_passes {X = X} p (x ∷ xs) h = go (p x) refl h (some_passes p xs)
  where
    go : (b : Bool) → p x ≡ b → (b || list_any p xs) ≡ true → (list_any p xs ≡ true → (y : X) × Has xs y × (p y ≡ true)) → (y : X) × Has (x ∷ xs) y × (p y ≡ true)
    go true is e later = (x, inl refl, is)
    go false is e later = let it = later e in (it.0, inr it.1, it.2)

or_true : (a : Bool) → (a || true) ≡ true
or_true true = refl
or_true false = refl

one_passes : {X : Type 0} (p : X → Bool) (xs : List X) (x : X) → Has xs x → p x ≡ true → list_any p xs ≡ true
one_passes p [] x h passes = absurd h
one_passes p (y ∷ xs) x (inl same) passes = ap (λ b. b || list_any p xs) (ap p (sym same) ∙ passes)
one_passes p (y ∷ xs) x (inr later) passes = ap (λ b. p y || b) (one_passes p xs x later passes) ∙ or_true (p y)

-- ---- rows that are open

is_open_by : (state tries due : ℕ) (why : Cause) → state < 4 → is_lt (int_cmp (pos state) (pos 2)) ≡ true → is_queued (progress_by state tries due why) ≡ true
is_open_by zero tries due why known less = refl
is_open_by (suc zero) tries due why known less = refl
is_open_by (suc (suc zero)) tries due why known less = absurd cc
is_open_by (suc (suc (suc zero))) tries due why known less = absurd cc
is_open_by (suc (suc (suc (suc more)))) tries due why known less = absurd (omega (arith, known))

open_by : (state tries due : ℕ) (why : Cause) → is_queued (progress_by state tries due why) ≡ true → is_lt (int_cmp (pos state) (pos 2)) ≡ true
open_by zero tries due why queued = refl
open_by (suc zero) tries due why queued = refl
open_by (suc (suc zero)) tries due why queued = absurd (true≢false (sym queued))
open_by (suc (suc (suc more))) tries due why queued = absurd (true≢false (sym queued))

not_itself : (s t : List ℕ) → is_ne (slice_cmp nat_cmp s t) ≡ true → s ≢ t
not_itself s t h same = true≢false (sym h ∙ ap (λ x. is_ne (slice_cmp nat_cmp s x)) (sym same) ∙ ap is_ne (tied_itself nat_list_cmp_total s))

differs : (s t : List ℕ) → s ≢ t → is_ne (slice_cmp nat_cmp s t) ≡ true
differs s t other = go (slice_cmp nat_cmp s t) refl
  where
    go : (o : Ordering) → slice_cmp nat_cmp s t ≡ o → is_ne (slice_cmp nat_cmp s t) ≡ true
    go Less e = ap is_ne e
    go Equal e = absurd (other (exact_bytes s t e))
    go Greater e = ap is_ne e

module _ (k : Pair) where
  abbrev open_params : Row
  open_params = TextCell k.0 ∷ TextCell k.1 ∷ []

  abbrev hits_open : Row → Bool
  hits_open = hits select.open_elsewhere open_params

  open_test : (row : Row) (is : IsOurs row)
      → hits_open row ≡ (is_eq (slice_cmp nat_cmp is.queue.at.0 k.0) && (is_ne (slice_cmp nat_cmp is.queue.at.1 k.1) && (is_lt (int_cmp (pos is.counted.state) (pos 2)) && true)))
  open_test row is =
      rw (is.queue.uid, is.queue.dest, is.counted.state_is, same_text is.queue.at.0 k.0, text_test Ne is.queue.at.1 k.1, int_test Lt (pos is.counted.state) (pos 2))

  module _ (old new : State) (rows : List Row) (has : IsLedger old.now) (h : Shown text.find_open open_params old new rows) where
    is_open_row : (row : Row) → Has (old.now.trees 9) row → IsOurs row
    is_open_row row there = all_has IsOurs (old.now.trees 9) row (are_ours old has) there

    any_open : not (length rows == 0) ≡ list_any hits_open (old.now.trees 9)
    any_open =
        let answer : IsAnswer (over 9 select.open_elsewhere select.open_shown) (overlay old.now.trees []) open_params rows =
        (reads_as text.find_open open_params old new tables has.schema _ select.find_open.command select.find_open.plain select.find_open.listing rows h).answer Null in
        none_shown 9 select.open_elsewhere select.open_shown old.now.trees open_params rows answer answer.grouped

    from_row : (row : Row) → Has (old.now.trees 9) row → hits_open row ≡ true → IsOpenElsewhere old.now.trees k.0 k.1
    from_row row there hit =
        let is = is_open_row row there in
        let a = both (is_eq (slice_cmp nat_cmp is.queue.at.0 k.0)) _ (sym (open_test row is) ∙ hit) in
        let b = both (is_ne (slice_cmp nat_cmp is.queue.at.1 k.1)) _ a.1 in
        let d = both (is_lt (int_cmp (pos is.counted.state) (pos 2))) true b.1 in (
          is.queue.at.1,
          (entry_in row).1,
          not_itself is.queue.at.1 k.1 b.0,
          found_at old has row there is k.0 is.queue.at.1 (exact_bytes is.queue.at.0 k.0 (maps.equal _ a.0)) refl,
          ap is_queued (progress_of row is) ∙ is_open_by is.counted.state _ _ _ is.counted.known d.0,
        )

    to_row : IsOpenElsewhere old.now.trees k.0 k.1 → list_any hits_open (old.now.trees 9) ≡ true
    to_row it =
        let row = found_row (k.0, it.0) it.1 (old.now.trees 9) (sym (in_map old.now.trees (k.0, it.0)) ∙ it.3) in
        let is = is_open_row row.0 row.1 in
        let at : is.queue.at ≡ (k.0, it.0) = sym (key_of row.0 is.queue) ∙ row.2 in
        let uid : is_eq (slice_cmp nat_cmp is.queue.at.0 k.0) ≡ true = ap (λ (q : Pair). is_eq (slice_cmp nat_cmp q.0 k.0)) at ∙ ap is_eq (tied_itself nat_list_cmp_total k.0) in
        let dest : is_ne (slice_cmp nat_cmp is.queue.at.1 k.1) ≡ true = ap (λ (q : Pair). is_ne (slice_cmp nat_cmp q.1 k.1)) at ∙ differs it.0 k.1 it.2 in
        let state : is_lt (int_cmp (pos is.counted.state) (pos 2)) ≡ true = open_by is.counted.state _ _ _ (ap is_queued (sym (progress_of row.0 is) ∙ row.3) ∙ it.4) in
        one_passes hits_open (old.now.trees 9) row.0 row.1 (open_test row.0 is ∙ (λ i. uid i && (dest i && (state i && true))))

    pub open_found : IsTrue (not (length rows == 0)) ↔ IsOpenElsewhere old.now.trees k.0 k.1
    open_found = (λ shown. let row = some_passes hits_open (old.now.trees 9) (sym any_open ∙ shown) in from_row row.0 row.1 row.2, λ it. any_open ∙ to_row it)

-- ---- rows of one instance that are open, to whatever destination

module _ (uid : Text) where
  abbrev any_open_params : Row
  any_open_params = TextCell uid ∷ []

  abbrev hits_any_open : Row → Bool
  hits_any_open = hits select.any_open any_open_params

  any_open_test : (row : Row) (is : IsOurs row) → hits_any_open row ≡ (is_eq (slice_cmp nat_cmp is.queue.at.0 uid) && (is_lt (int_cmp (pos is.counted.state) (pos 2)) && true))
  any_open_test row is = rw (is.queue.uid, is.counted.state_is, same_text is.queue.at.0 uid, int_test Lt (pos is.counted.state) (pos 2))

  module _ (old new : State) (rows : List Row) (has : IsLedger old.now) (h : Shown text.find_any_open any_open_params old new rows) where
    is_its_row : (row : Row) → Has (old.now.trees 9) row → IsOurs row
    is_its_row row there = all_has IsOurs (old.now.trees 9) row (are_ours old has) there

    any_one_open : not (length rows == 0) ≡ list_any hits_any_open (old.now.trees 9)
    any_one_open =
        let answer : IsAnswer (over 9 select.any_open select.open_shown) (overlay old.now.trees []) any_open_params rows =
        (reads_as text.find_any_open any_open_params old new tables has.schema _ select.find_any_open.command select.find_any_open.plain select.find_any_open.listing rows h).answer Null in
        none_shown 9 select.any_open select.open_shown old.now.trees any_open_params rows answer answer.grouped

    by_row : (row : Row) → Has (old.now.trees 9) row → hits_any_open row ≡ true → HasOpen old.now.trees uid
    by_row row there hit =
        let is = is_its_row row there in
        let a = both (is_eq (slice_cmp nat_cmp is.queue.at.0 uid)) _ (sym (any_open_test row is) ∙ hit) in
        let d = both (is_lt (int_cmp (pos is.counted.state) (pos 2))) true a.1 in (
          is.queue.at.1,
          (entry_in row).1,
          found_at old has row there is uid is.queue.at.1 (exact_bytes is.queue.at.0 uid (maps.equal _ a.0)) refl,
          ap is_queued (progress_of row is) ∙ is_open_by is.counted.state _ _ _ is.counted.known d.0,
        )

    of_row : HasOpen old.now.trees uid → list_any hits_any_open (old.now.trees 9) ≡ true
    of_row it =
        let row = found_row (uid, it.0) it.1 (old.now.trees 9) (sym (in_map old.now.trees (uid, it.0)) ∙ it.2) in
        let is = is_its_row row.0 row.1 in
        let at : is.queue.at ≡ (uid, it.0) = sym (key_of row.0 is.queue) ∙ row.2 in
        let its : is_eq (slice_cmp nat_cmp is.queue.at.0 uid) ≡ true = ap (λ (q : Pair). is_eq (slice_cmp nat_cmp q.0 uid)) at ∙ ap is_eq (tied_itself nat_list_cmp_total uid) in
        let state : is_lt (int_cmp (pos is.counted.state) (pos 2)) ≡ true = open_by is.counted.state _ _ _ (ap is_queued (sym (progress_of row.0 is) ∙ row.3) ∙ it.3) in
        one_passes hits_any_open (old.now.trees 9) row.0 row.1 (any_open_test row.0 is ∙ (λ i. its i && (state i && true)))

    pub any_open_found : IsTrue (not (length rows == 0)) ↔ HasOpen old.now.trees uid
    any_open_found = (λ shown. let row = some_passes hits_any_open (old.now.trees 9) (sym any_one_open ∙ shown) in by_row row.0 row.1 row.2, λ it. any_one_open ∙ of_row it)

-- ---- the first of an order that ORDER BY allows

module _ {X Y : Type 0} (hit : X → Bool) (out : X → Y) where
  -- what is shown is the image of a row that is taken
  abbrev IsImage : List X → Y → Type 0
  IsImage rows y = (row : X) × Has rows row × (hit row ≡ true) × (y ≡ out row)

  images : (rows : List X) → AllByRecursion (IsImage rows) (map out (filter hit rows))
  images [] = tt
  images (r ∷ rows) = go (hit r) refl (all_weaker (IsImage rows) (IsImage (r ∷ rows)) (λ y h. (h.0, inr h.1, h.2, h.3)) (map out (filter hit rows)) (images rows))
    where
      go : (b : Bool) → hit r ≡ b → AllByRecursion (IsImage (r ∷ rows)) (map out (filter hit rows)) → AllByRecursion (IsImage (r ∷ rows)) (map out (cond b (r ∷ filter hit rows) (filter hit rows)))
      go true is later = ((r, inl refl, is, refl), later)
      go false is later = later

  each_image : (P : Y → Type 0) (rows : List X) → AllByRecursion P (map out (filter hit rows)) → AllByRecursion (λ r. hit r ≡ true → P (out r)) rows
  each_image P [] h = tt
  each_image P (r ∷ rows) h = go (hit r) refl h (each_image P rows)
    where
      go : (b : Bool) → hit r ≡ b → AllByRecursion P (map out (cond b (r ∷ filter hit rows) (filter hit rows)))
          → (AllByRecursion P (map out (filter hit rows)) → AllByRecursion (λ x. hit x ≡ true → P (out x)) rows) → AllByRecursion (λ x. hit x ≡ true → P (out x)) (r ∷ rows)
      go true is h later = (λ _. h.0, later h.1)
      go false is h later = (λ missed. absurd (true≢false (sym missed ∙ is)), later h)

less : (o : Ordering) → is_lt o ≡ true → o ≡ Less
less Less h = refl
less Equal h = absurd cc
less Greater h = absurd cc

weak_order : {K : Type 0} {R : K → K → Ordering} → IsTotalOrder R → IsStrictWeakOrder (λ a b. is_lt (R a b))
weak_order {K} {R} total = record { one_way = λ x y h. ap is_lt (total.antisymm y x ∙ ap ordering_reverse (less (R x y) h)); chain = λ x y z a b. chained x y z (R x y) refl a b }
  where
    chained : (x y z : K) (o : Ordering) → R x y ≡ o → is_lt (R x y) ≡ false → is_lt (R y z) ≡ false → is_lt (R x z) ≡ false
    chained x y z Less e a b = absurd (true≢false (sym (ap is_lt e) ∙ a))
    chained x y z Equal e a b = ap is_lt (total.congr x y z e) ∙ b
    chained x y z Greater e a b = not_true (is_lt (R x z)) (λ h. true≢false (sym (ap is_lt (total.trans y x z (above total x y e) (less (R x z) h))) ∙ b))

module _ {X Y : Type 0} {R : Y → Y → Ordering} (total : IsTotalOrder R) (hit : X → Bool) (out : X → Y) (rows : List X) (kept ordered : List Y) (kept_is : kept ≡ map out (filter hit rows))
    (same : IsPermutation kept ordered) (up : IsSorted R ordered) where
  some_first : (y : Y) (more : List Y) → ordered ≡ y ∷ more → IsImage hit out rows y × AllByRecursion (λ r. hit r ≡ true → is_lt (R (out r) y) ≡ false) rows
  some_first y more is =
      let first = recursion_from_All (IsImage hit out rows) ordered
      (All-permutation (IsImage hit out rows) kept ordered same (subst (All (IsImage hit out rows)) (sym kept_is) (All-from_recursion (IsImage hit out rows) _ (images hit out rows)))) in
      let least : All (λ z. is_lt (R z y) ≡ false) ordered =
      rw is (λ j d low. sorted_far (λ a b. is_lt (R a b)) (weak_order total) (y ∷ more) (subst (IsSorted R) is up) 0 j d (omega arith) low) in
      let kept_least = All-permutation (λ z. is_lt (R z y) ≡ false) ordered kept (IsPermutation-sym kept ordered same) least in (
        (subst (AllByRecursion (IsImage hit out rows)) is first).0,
        each_image hit out (λ z. is_lt (R z y) ≡ false) rows (recursion_from_All (λ z. is_lt (R z y) ≡ false) _ (subst (All (λ z. is_lt (R z y) ≡ false)) kept_is kept_least)),
      )

  none_first : ordered ≡ [] → AllByRecursion (λ r. hit r ≡ true → ⊥) rows
  none_first is = each_image hit out (λ _. ⊥) rows (rw (← kept_is, no_more kept (subst (IsPermutation kept) is same)) tt)
    where
      no_more : (xs : List Y) → IsPermutation xs [] → xs ≡ []
      no_more [] h = refl
      no_more (x ∷ xs) h = absurd (omega (arith, length_permutation (x ∷ xs) [] h))

-- ---- the first row that is due

le_of : (m n : ℕ) → is_le (nat_cmp m n) ≡ true → m ≤ n
le_of m n h = go (nat_cmp m n) refl h
  where
    go : (r : Ordering) → r ≡ nat_cmp m n → is_le r ≡ true → m ≤ n
    go Less e h = let low = ranked m n Less e in omega (arith, low)
    go Equal e h = let same = ranked m n Equal e in omega (arith, same)
    go Greater e h = absurd cc

of_le : (m n : ℕ) → m ≤ n → is_le (nat_cmp m n) ≡ true
of_le m n low = go (nat_cmp m n) refl
  where
    go : (r : Ordering) → r ≡ nat_cmp m n → is_le (nat_cmp m n) ≡ true
    go Less e = ap is_le (sym e)
    go Equal e = ap is_le (sym e)
    go Greater e = let high = ranked m n Greater e in absurd (omega (arith, high, low))

-- the state of a row that waits
waits_by : (state tries due : ℕ) (why : Cause) (t d : ℕ) → progress_by state tries due why ≡ Waiting t d → (state ≡ 0) × (due ≡ d)
waits_by zero tries due why t d e = (refl, ap due_of e)
waits_by (suc zero) tries due why t d e = absurd cc
waits_by (suc (suc zero)) tries due why t d e = absurd cc
waits_by (suc (suc (suc more))) tries due why t d e = absurd cc

not_later : {K : Type 0} {R : K → K → Ordering} → IsTotalOrder R → (a b : K) → is_lt (R b a) ≡ false → R a b ≢ Greater
not_later {R = R} total a b h greater = true≢false (sym (ap is_lt (total.antisymm b a ∙ ap ordering_reverse greater)) ∙ h)

module _ (dest : Text) (now m : ℕ) (bound : (d : ℕ) → d < 2 ^ 63 → (d ≤ m → d ≤ now) × (d ≤ now → d ≤ m)) where
  abbrev next_params : Row
  next_params = TextCell dest ∷ Int (pos m) ∷ []

  abbrev hits_next : Row → Bool
  hits_next = hits select.due_at_dest next_params

  abbrev out : Row → Output
  out r = output select.next_query (next_params ∷ r ∷ [])

  next_test : (row : Row) (is : IsOurs row)
      → hits_next row ≡ (is_eq (slice_cmp nat_cmp is.queue.at.1 dest) && (is_eq (nat_cmp is.counted.state 0) && (is_le (nat_cmp is.counted.due m) && true)))
  next_test row is =
      rw (is.queue.dest, is.counted.state_is, is.counted.due_is, same_text is.queue.at.1 dest, int_test Eq (pos is.counted.state) (pos 0), int_test Le (pos is.counted.due) (pos m), int_of_nat is.counted.state 0, int_of_nat is.counted.due m)

  order_is : (a b : Row) (p : IsOurs a) (q : IsOurs b)
      → output_cmp select.next_query (out a) (out b) ≡ ordering_then (nat_cmp p.counted.due q.counted.due) (text_cmp p.queue.at.0 q.queue.at.0)
  order_is a b p q =
      rw (
        p.counted.due_is,
        q.counted.due_is,
        p.queue.uid,
        q.queue.uid,
        value_cmp-Int (pos p.counted.due) (pos q.counted.due),
        value_cmp-Text p.queue.at.0 q.queue.at.0,
        then-Equal (slice_cmp nat_cmp p.queue.at.0 q.queue.at.0),
        int_of_nat p.counted.due q.counted.due,
      )

  module _ (old new : State) (has : IsLedger old.now) where
    is_row : (row : Row) → Has (old.now.trees 9) row → IsOurs row
    is_row row there = all_has IsOurs (old.now.trees 9) row (are_ours old has) there

    -- a row that passes the test is due
    due_of_row : (row : Row) → Has (old.now.trees 9) row → (is : IsOurs row) → hits_next row ≡ true → IsDue (book_of old.now.trees) dest now is.queue.at.0 is.counted.due
    due_of_row row there is hit =
        let a = both (is_eq (slice_cmp nat_cmp is.queue.at.1 dest)) _ (sym (next_test row is) ∙ hit) in
        let b = both (is_eq (nat_cmp is.counted.state 0)) _ a.1 in
        let d = both (is_le (nat_cmp is.counted.due m)) true b.1 in
        let state : is.counted.state ≡ 0 = fin.nat_cmp-IsAntisymmetric is.counted.state 0 (maps.equal _ b.0) in
        let waits : (entry_in row).1 ≡ Waiting (number_in (column row 4)) is.counted.due =
        progress_of row is ∙ ap (λ n. progress_by n (number_in (column row 4)) is.counted.due (cause_in (column row 6))) state in (
          (number_in (column row 4), found_at old has row there is is.queue.at.0 dest refl (exact_bytes is.queue.at.1 dest (maps.equal _ a.0)) ∙ ap Some waits),
          (bound is.counted.due is.counted.fits).0 (le_of is.counted.due m d.0),
        )

    -- and the row of an entry that is due passes it
    row_of_due : (uid : Text) (due : ℕ) → IsDue (book_of old.now.trees) dest now uid due
        → (row : Row) × (there : Has (old.now.trees 9) row) × (is : IsOurs row) × (is.queue.at.0 ≡ uid) × (is.counted.due ≡ due) × (hits_next row ≡ true)
    row_of_due uid due it =
        let row = found_row (uid, dest) (Waiting it.0.0 due) (old.now.trees 9) (sym (in_map old.now.trees (uid, dest)) ∙ it.0.1) in
        let is = is_row row.0 row.1 in
        let at : is.queue.at ≡ (uid, dest) = sym (key_of row.0 is.queue) ∙ row.2 in
        let waits = waits_by is.counted.state (number_in (column row.0 4)) is.counted.due (cause_in (column row.0 6)) it.0.0 due (sym (progress_of row.0 is) ∙ row.3) in
        let to : is_eq (slice_cmp nat_cmp is.queue.at.1 dest) ≡ true = ap (λ (q : Pair). is_eq (slice_cmp nat_cmp q.1 dest)) at ∙ ap is_eq (tied_itself nat_list_cmp_total dest) in
        let state : is_eq (nat_cmp is.counted.state 0) ≡ true = ap (λ n. is_eq (nat_cmp n 0)) waits.0 in
        let low : is_le (nat_cmp is.counted.due m) ≡ true = of_le is.counted.due m ((bound is.counted.due is.counted.fits).1 (subst (λ d. d ≤ now) (sym waits.1) it.1)) in
        (row.0, row.1, is, ap (λ (q : Pair). q.0) at, waits.1, next_test row.0 is ∙ (λ i. to i && (state i && (low i && true))))

    module _ (rows : List Row) (answer : IsAnswer select.next_query (overlay old.now.trees []) next_params rows) (kept : answer.kept ≡ map out (filter hits_next (old.now.trees 9))) where
      none_due : answer.ordered ≡ [] → IsFirstDue old.now.trees dest now (first_of shown_text rows)
      none_due e =
          let empty : rows ≡ [] = answer.shown ∙ ap (λ os. page select.next_query next_params (map (λ (o : Output). o.1) os)) e in
          let none = none_first (output_cmp_total select.next_query) hits_next out (old.now.trees 9) answer.kept answer.ordered kept answer.same answer.sorted e in
          subst (λ rs. IsFirstDue old.now.trees dest now (first_of shown_text rs)) (sym empty)
          (λ uid due it. let row = row_of_due uid due it in all_has (λ r. hits_next r ≡ true → ⊥) (old.now.trees 9) row.0 none row.1 row.5)

      one_due : (y : Output) (more : List Output) → answer.ordered ≡ y ∷ more → IsFirstDue old.now.trees dest now (first_of shown_text rows)
      one_due y more e =
          let one : rows ≡ y.1 ∷ [] = answer.shown ∙ ap (λ os. page select.next_query next_params (map (λ (o : Output). o.1) os)) e in
          let first = some_first (output_cmp_total select.next_query) hits_next out (old.now.trees 9) answer.kept answer.ordered kept answer.same answer.sorted y more e in
          let row = first.0.0 in
          let is = is_row row first.0.1 in
          let due = is.counted.due in
          let uid = is.queue.at.0 in
          let shows : first_of shown_text rows ≡ Some uid = ap (first_of shown_text) one ∙ ap (λ (o : Output). Some (text_in (column o.1 0))) first.0.3 ∙ ap (λ v. Some (text_in v)) is.queue.uid in
          subst (IsFirstDue old.now.trees dest now) (sym shows) (
            due,
            due_of_row row first.0.1 is first.0.2,
            λ other moment it.
                let r = row_of_due other moment it in
                let behind = all_has (λ x. hits_next x ≡ true → is_lt (output_cmp select.next_query (out x) y) ≡ false) (old.now.trees 9) r.0 first.1 r.1 r.5 in
                let no_later = not_later (output_cmp_total select.next_query) (out row) (out r.0) (ap (λ z. is_lt (output_cmp select.next_query (out r.0) z)) (sym first.0.3) ∙ behind) in
                let order : output_cmp select.next_query (out row) (out r.0) ≡ ordering_then (nat_cmp due moment) (text_cmp uid other) =
                order_is row r.0 is r.2 ∙ (λ i. ordering_then (nat_cmp due (r.4 i)) (text_cmp uid (r.3 i))) in
                λ greater. no_later (order ∙ greater),
          )

    pub next_found : (rows : List Row) → Shown text.find_next next_params old new rows → IsFirstDue old.now.trees dest now (first_of shown_text rows)
    next_found rows h =
        let answer : IsAnswer select.next_query (overlay old.now.trees []) next_params rows =
        (reads_as text.find_next next_params old new tables has.schema _ select.find_next.command select.find_next.plain select.find_next.listing rows h).answer Null in
        let kept : answer.kept ≡ map out (filter hits_next (old.now.trees 9)) =
        answer.distinct ∙ ap (map (output select.next_query)) (answer.grouped ∙ matched hits_next (λ r. next_params ∷ r ∷ []) (old.now.trees 9))
        ∙ map_twice (λ r. next_params ∷ r ∷ []) (output select.next_query) (filter hits_next (old.now.trees 9)) in
        go rows answer kept answer.ordered refl
      where
        go : (rows : List Row) (answer : IsAnswer select.next_query (overlay old.now.trees []) next_params rows) → answer.kept ≡ map out (filter hits_next (old.now.trees 9))
            → (ordered : List Output) → answer.ordered ≡ ordered → IsFirstDue old.now.trees dest now (first_of shown_text rows)
        go rows answer kept [] e = none_due rows answer kept e
        go rows answer kept (y ∷ more) e = one_due rows answer kept y more e
