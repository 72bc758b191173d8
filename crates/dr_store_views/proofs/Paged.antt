-- Rows of queue in an order of which the entries that pass a test are the first.
use Rattle.std.proofs.Common.{◌≡◌, ℕ, zero, suc, negsuc, pos, List, [], ◌∷◌, map, filter, take, All, Bool, true, false, ◌&&◌, cond, Option, refl, sym, ap, subst, ◌∙◌}
use Rattle.std.specs.declared.cmp.Ordering.{Ordering}
use Rattle.std.specs.declared.cmp.Ordering.TheVariants.{Less, Equal, Greater}
use Rattle.std.specs.Ordering.{is_eq, is_ge, is_gt, is_le, is_lt, nat_cmp, ordering_reverse, ordering_then}
use Rattle.std.specs.Cmp.Lexicographic.{nat_list_cmp_total, slice_cmp}
use Rattle.std.specs.FinMap.{entries}
use Rattle.std.specs.List.{AllByRecursion}
use Rattle.std.specs.List.Sorted.{IsPermutation}
use Rattle.std.specs.Str.{bytes_eq}
use Rattle.std.proofs.lemmas.Cmp.{tied_itself}
use Rattle.std.proofs.lemmas.List.Elements.{All-from_recursion}
use Rattle.std.proofs.lemmas.List.Sorted.{All-permutation, IsPermutation-map}
use Rattle.std.proofs.lemmas.Map.Lookups.{exact_bytes}
use Rattle.std.proofs.lemmas.Map.Text.{is_eq-slice_cmp}
use Rattle.sqlite.specs.Collation.TheVariants.{Binary}
use Rattle.sqlite.specs.declared.types.Value.TheVariants.{Int, Null, Text as TextCell}
use Rattle.sqlite.specs.Order.{Row, column}
use Rattle.sqlite.specs.Program.{overlay}
use Rattle.sqlite.specs.Query.{IsAnswer, Output, Query, output, output_cmp}
use Rattle.sqlite.specs.State.{State, Shown}
use Rattle.sqlite.specs.Term.{Term, col, lit}
use Rattle.sqlite.proofs.Callers.{reads_as}
use Rattle.sqlite_sql.specs.declared.ops.CompareOp.TheVariants.{Ge, Gt, Le}
use Rattle.sqlite_trees.proofs.ListLemmas.{all_weaker}
use Rattle.sqlite_value.proofs.OrderLemmas.{value_cmp-Text, then-Equal}
use Rattle.sqlite_value.specs.Keys.{ascending}
use Rattle.dr_base.specs.Texts.{Text, text_cmp}
use Rattle.dr_ledger.specs.Books.{Row as Entry}
use Rattle.dr_ledger.specs.Pairs.{Pair, pair_cmp}
use Rattle.dr_ledger_views.specs.declared.stage.Stage.{Stage}
use Rattle.dr_ledger_views.specs.Views as views
use Rattle.dr_ledger_views.specs.Views.{is_at, is_of, is_wanted, page_of}
use Rattle.dr_ledger_views.proofs.Ordered.{in_order}
use Rattle.dr_store_schema.specs.Books.{entry_in, rows_of}
use Rattle.dr_store_schema.specs.Ledgers.{IsLedger}
use Rattle.dr_store_schema.specs.Tables.{tables}
use Rattle.dr_store_lists.specs.Lists.{shown_entry}
use Rattle.dr_store_writes.proofs.Keys.{int_test, key_of, pairs_exact, pairs_total, same_text}
use Rattle.dr_store_writes.proofs.Maps as maps
use Rattle.dr_store_writes.proofs.Updated.{hits, matched}
use Rattle.dr_store_reads.proofs.Points.{map_twice}
use Rattle.dr_store_views.specs.Answers.{greatest_state, least_state}
use Rattle.dr_store_views.specs.Statements as text
use Rattle.dr_store_views.proofs.Rows.{IsOurs, apart, are_ours, in_states, int_of_nat, progress_of, text_test}
use Rattle.dr_store_views.proofs.Selects as select

-- ---- lists

filter_mapped : {X Y : Type 0} (hit : X → Bool) (g : X → Y) (p : Y → Bool) (xs : List X) → AllByRecursion (λ x. hit x ≡ p (g x)) xs → map g (filter hit xs) ≡ filter p (map g xs)
filter_mapped hit g p [] fits = refl
filter_mapped hit g p (x ∷ xs) fits = go (hit x) (p (g x)) fits.0 (filter_mapped hit g p xs fits.1)
  where
    go : (a b : Bool) → a ≡ b → map g (filter hit xs) ≡ filter p (map g xs) → map g (cond a (x ∷ filter hit xs) (filter hit xs)) ≡ cond b (g x ∷ filter p (map g xs)) (filter p (map g xs))
    go true true e later = ap (λ ys. g x ∷ ys) later
    go false false e later = later
    go true false e later = absurd cc
    go false true e later = absurd cc

all_found : {X Y : Type 0} (P : Y → Type 0) (hit : X → Bool) (f : X → Y) (xs : List X) → AllByRecursion (λ x. hit x ≡ true → P (f x)) xs → AllByRecursion P (map f (filter hit xs))
all_found P hit f [] h = tt
all_found P hit f (x ∷ xs) h = go (hit x) refl (all_found P hit f xs h.1)
  where
    go : (b : Bool) → hit x ≡ b → AllByRecursion P (map f (filter hit xs)) → AllByRecursion P (map f (cond b (x ∷ filter hit xs) (filter hit xs)))
    go true is later = (h.0 is, later)
    go false is later = later

take_mapped : {X Y : Type 0} (f : X → Y) (n : ℕ) (xs : List X) → map f (take n xs) ≡ take n (map f xs)
take_mapped f zero xs = refl
take_mapped f (suc n) [] = refl
take_mapped f (suc n) (x ∷ xs) = ap (λ ys. f x ∷ ys) (take_mapped f n xs)

both : (a b : Bool) → (a && b) ≡ true → (a ≡ true) × (b ≡ true)
both true b h = (refl, h)
both false b h = absurd cc

-- ---- a query in the order of a text

abbrev pub its : Output → Entry
its o = shown_entry o.1

abbrev query : List Term → ℕ → Term → Query
query conditions place limit = select.ordered conditions select.entry_shown ((col 1 place, ascending Binary) ∷ []) limit

-- in the order of that column, of which a row has this text
module _ (conditions : List Term) (place : ℕ) (limit : Term) (params : Row) (which : Pair → Text) (InSame : Pair → Type 0)
    (compare : (a b : Pair) → InSame a → InSame b → pair_cmp a b ≡ text_cmp (which a) (which b)) (p : Entry → Bool)
    (fits : (row : Row) (is : IsOurs row) → hits conditions params row ≡ p (entry_in row))
    (placed : (row : Row) (is : IsOurs row) → hits conditions params row ≡ true → (column row place ≡ TextCell (which is.queue.at)) × InSame is.queue.at) where
  abbrev q : Query
  q = query conditions place limit

  abbrev hit : Row → Bool
  hit = hits conditions params

  abbrev out : Row → Output
  out r = output q (params ∷ r ∷ [])

  -- what is shown is an entry, and is put in order by its text
  record IsGood (o : Output) : Type 0 where
    at : Pair
    key : o.0 ≡ TextCell (which at) ∷ []
    entry : (its o).0 ≡ at
    same : InSame at

  order_is : (a b : Output) (x y : Text) → a.0 ≡ TextCell x ∷ [] → b.0 ≡ TextCell y ∷ [] → output_cmp q a b ≡ text_cmp x y
  order_is a b x y p r = rw (p, r, value_cmp-Text x y, then-Equal)

  agree : (a b : Output) → IsGood a → IsGood b → is_lt (output_cmp q a b) ≡ is_lt (pair_cmp (its a).0 (its b).0)
  agree a b g h =
      ap is_lt (order_is a b (which g.at) (which h.at) g.key h.key ∙ sym (compare g.at h.at g.same h.same) ∙ (λ i. pair_cmp (sym g.entry i) (sym h.entry i)))

  good : (row : Row) (is : IsOurs row) → hit row ≡ true → IsGood (out row)
  good row is found = let it = placed row is found in record {
    at = is.queue.at;
    key = ap (λ v. v ∷ []) it.0;
    entry = key_of row is.queue;
    same = it.1;
  }

  module _ (old : State) (has : IsLedger old.now) (rows : List Row) (answer : IsAnswer q (overlay old.now.trees []) params rows)
      (kept : answer.kept ≡ map out (filter hit (old.now.trees 9))) where
    abbrev table : List Row
    table = old.now.trees 9

    abbrev es : List Entry
    es = map entry_in table

    same : IsPermutation (filter p es) (map its answer.ordered)
    same =
        let shown : map its answer.kept ≡ filter p es =
        ap (map its) kept ∙ map_twice out its (filter hit table) ∙ filter_mapped hit entry_in p table (all_weaker IsOurs _ (λ row is. fits row is) table (are_ours old.now has)) in
        subst (λ xs. IsPermutation xs (map its answer.ordered)) shown (IsPermutation-map its answer.kept answer.ordered answer.same)

    all_good : All IsGood answer.ordered
    all_good =
        All-permutation IsGood answer.kept answer.ordered answer.same
        (subst (All IsGood) (sym kept) (All-from_recursion IsGood (map out (filter hit table)) (all_found IsGood hit out table (all_weaker IsOurs _ (λ row is. good row is) table (are_ours old.now has)))))

    -- all entries that pass, in the order of the book's rows
    pub ordered_is : map its answer.ordered ≡ filter p (entries (rows_of old.now.trees))
    ordered_is = in_order pairs_total pairs_exact (output_cmp q) its IsGood agree p es (apart old.now has) answer.ordered same all_good answer.sorted

-- ---- rows of an instance

module _ (uid : Text) where
  abbrev pub uid_params : Row
  uid_params = TextCell uid ∷ []

  abbrev InUid : Pair → Type 0
  InUid at = at.0 ≡ uid

  uid_compare : (a b : Pair) → InUid a → InUid b → pair_cmp a b ≡ text_cmp a.1 b.1
  uid_compare a b x y = (λ i. ordering_then (text_cmp (x i) (y i)) (text_cmp a.1 b.1)) ∙ ap (λ o. ordering_then o (text_cmp a.1 b.1)) (tied_itself nat_list_cmp_total uid)

  uid_test : (row : Row) (is : IsOurs row) → hits select.of_uid uid_params row ≡ (is_eq (slice_cmp nat_cmp is.queue.at.0 uid) && true)
  uid_test row is = rw (is.queue.uid, same_text is.queue.at.0 uid)

  and_true : (b : Bool) → (b && true) ≡ b
  and_true true = refl
  and_true false = refl

  uid_fits : (row : Row) (is : IsOurs row) → hits select.of_uid uid_params row ≡ is_of uid (entry_in row)
  uid_fits row is = uid_test row is ∙ and_true _ ∙ is_eq-slice_cmp is.queue.at.0 uid ∙ ap (λ (k : Pair). bytes_eq k.0 uid) (sym (key_of row is.queue))

  uid_placed : (row : Row) (is : IsOurs row) → hits select.of_uid uid_params row ≡ true → (column row 2 ≡ TextCell is.queue.at.1) × InUid is.queue.at
  uid_placed row is found = (is.queue.dest, exact_bytes is.queue.at.0 uid (maps.equal _ (both (is_eq (slice_cmp nat_cmp is.queue.at.0 uid)) true (sym (uid_test row is) ∙ found)).0))

  pub rows_found : (old new : State) (rows : List Row) → IsLedger old.now → Shown text.rows_of uid_params old new rows → map shown_entry rows ≡ views.rows_of (entries (rows_of old.now.trees)) uid
  rows_found old new rows has h =
      let answer : IsAnswer select.rows_query (overlay old.now.trees []) uid_params rows =
      (reads_as text.rows_of uid_params old new tables has.schema _ select.rows_of.command select.rows_of.plain select.rows_of.listing rows h).answer Null in
      let hit = hits select.of_uid uid_params in
      let kept : answer.kept ≡ map (λ r. output select.rows_query (uid_params ∷ r ∷ [])) (filter hit (old.now.trees 9)) =
      answer.distinct ∙ ap (map (output select.rows_query)) (answer.grouped ∙ matched hit (λ r. uid_params ∷ r ∷ []) (old.now.trees 9))
      ∙ map_twice (λ r. uid_params ∷ r ∷ []) (output select.rows_query) (filter hit (old.now.trees 9)) in
      let shown : rows ≡ map (λ (o : Output). o.1) answer.ordered = answer.shown in
      ap (map shown_entry) shown ∙ map_twice (λ (o : Output). o.1) shown_entry answer.ordered
      ∙ ordered_is select.of_uid 2 (lit (Int (negsuc 0))) uid_params (λ (k : Pair). k.1) InUid uid_compare (is_of uid) uid_fits uid_placed old has rows answer kept

-- ---- a page of a destination's rows

lt_reverse : (o : Ordering) → is_lt (ordering_reverse o) ≡ is_gt o
lt_reverse Less = refl
lt_reverse Equal = refl
lt_reverse Greater = refl

grouped_so : (a b c d : Bool) → (a && (b && (c && (d && true)))) ≡ ((a && (b && c)) && d)
grouped_so true true true true = refl
grouped_so true true true false = refl
grouped_so true true false d = refl
grouped_so true false c d = refl
grouped_so false b c d = refl

module _ (dest : Text) (named : Option Stage) (after : Text) (limit : ℕ) where
  abbrev pub page_params : Row
  page_params = TextCell dest ∷ Int (pos (least_state named)) ∷ Int (pos (greatest_state named)) ∷ TextCell after ∷ Int (pos limit) ∷ []

  abbrev InDest : Pair → Type 0
  InDest at = at.1 ≡ dest

  dest_compare : (a b : Pair) → InDest a → InDest b → pair_cmp a b ≡ text_cmp a.0 b.0
  dest_compare a b x y = (λ i. ordering_then (text_cmp a.0 b.0) (text_cmp (x i) (y i))) ∙ ap (ordering_then (text_cmp a.0 b.0)) (tied_itself nat_list_cmp_total dest) ∙ then-Equal (text_cmp a.0 b.0)

  abbrev hits_page : Row → Bool
  hits_page = hits select.behind page_params

  page_test : (row : Row) (is : IsOurs row)
      → hits_page row
      ≡ (is_eq (slice_cmp nat_cmp is.queue.at.1 dest)
      && (is_ge (nat_cmp is.counted.state (least_state named)) && (is_le (nat_cmp is.counted.state (greatest_state named)) && (is_gt (slice_cmp nat_cmp is.queue.at.0 after) && true))))
  page_test row is =
      rw (
        is.queue.uid,
        is.queue.dest,
        is.counted.state_is,
        same_text is.queue.at.1 dest,
        int_test Ge (pos is.counted.state) (pos (least_state named)),
        int_test Le (pos is.counted.state) (pos (greatest_state named)),
        text_test Gt is.queue.at.0 after,
        int_of_nat is.counted.state (least_state named),
        int_of_nat is.counted.state (greatest_state named),
      )

  page_fits : (row : Row) (is : IsOurs row) → hits_page row ≡ is_wanted dest named after (entry_in row)
  page_fits row is =
      let to : is_eq (slice_cmp nat_cmp is.queue.at.1 dest) ≡ bytes_eq (entry_in row).0.1 dest =
      is_eq-slice_cmp is.queue.at.1 dest ∙ ap (λ (k : Pair). bytes_eq k.1 dest) (sym (key_of row is.queue)) in
      let at : (is_ge (nat_cmp is.counted.state (least_state named)) && is_le (nat_cmp is.counted.state (greatest_state named))) ≡ is_at named (entry_in row).1 =
      sym (in_states named is.counted.state _ _ _ is.counted.known) ∙ ap (is_at named) (sym (progress_of row is)) in
      let late : is_gt (slice_cmp nat_cmp is.queue.at.0 after) ≡ is_lt (text_cmp after (entry_in row).0.0) =
      sym (lt_reverse (slice_cmp nat_cmp is.queue.at.0 after)) ∙ ap is_lt (sym (nat_list_cmp_total.antisymm after is.queue.at.0)) ∙ ap (λ (k : Pair). is_lt (text_cmp after k.0)) (sym (key_of row is.queue)) in
      page_test row is
      ∙ grouped_so (is_eq (slice_cmp nat_cmp is.queue.at.1 dest)) (is_ge (nat_cmp is.counted.state (least_state named))) (is_le (nat_cmp is.counted.state (greatest_state named))) (is_gt (slice_cmp nat_cmp is.queue.at.0 after))
      ∙ (λ i. (to i && at i) && late i)

  page_placed : (row : Row) (is : IsOurs row) → hits_page row ≡ true → (column row 1 ≡ TextCell is.queue.at.0) × InDest is.queue.at
  page_placed row is found = (is.queue.uid, exact_bytes is.queue.at.1 dest (maps.equal _ (both (is_eq (slice_cmp nat_cmp is.queue.at.1 dest)) _ (sym (page_test row is) ∙ found)).0))

  pub page_found : (old new : State) (rows : List Row) → IsLedger old.now → Shown text.page page_params old new rows
      → map shown_entry rows ≡ page_of (entries (rows_of old.now.trees)) dest named after limit
  page_found old new rows has h =
      let answer : IsAnswer select.page_query (overlay old.now.trees []) page_params rows =
      (reads_as text.page page_params old new tables has.schema _ select.page.command select.page.plain select.page.listing rows h).answer Null in
      let kept : answer.kept ≡ map (λ r. output select.page_query (page_params ∷ r ∷ [])) (filter hits_page (old.now.trees 9)) =
      answer.distinct ∙ ap (map (output select.page_query)) (answer.grouped ∙ matched hits_page (λ r. page_params ∷ r ∷ []) (old.now.trees 9))
      ∙ map_twice (λ r. page_params ∷ r ∷ []) (output select.page_query) (filter hits_page (old.now.trees 9)) in
      let shown : rows ≡ take limit (map (λ (o : Output). o.1) answer.ordered) = answer.shown in
      ap (map shown_entry) shown ∙ take_mapped shown_entry limit (map (λ (o : Output). o.1) answer.ordered)
      ∙ ap (take limit)
      (map_twice (λ (o : Output). o.1) shown_entry answer.ordered
      ∙ ordered_is select.behind 1 (col 0 4) page_params (λ (k : Pair). k.0) InDest dest_compare (is_wanted dest named after) page_fits page_placed old has rows answer kept)
