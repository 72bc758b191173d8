-- What the lists of whole tables show.
use Rattle.std.proofs.Common.{◌≡◌, ℕ, zero, suc, List, [], ◌∷◌, map, flat_map, Contains, T, refl, sym, ap, subst, ◌∙◌, arith}
use Rattle.std.specs.List.{AllByRecursion}
use Rattle.std.specs.declared.cmp.Ordering.{Ordering}
use Rattle.std.specs.Ordering.{nat_cmp, is_lt}
use Rattle.std.specs.Cmp.{IsTotalOrder, nat_cmp_total}
use Rattle.std.specs.Cmp.Lexicographic.{nat_list_cmp_total, slice_cmp}
use Rattle.std.specs.FinMap as fin
use Rattle.std.specs.FinMap.{FinMap, IsAntisymmetric, entries, from_entries}
use Rattle.std.specs.FinMap.Entries.{below_all, is_sorted}
use Rattle.std.specs.FinSet as set
use Rattle.std.specs.List.Sorted.{IsPermutation, IsStrictlySortedBy}
use Rattle.std.proofs.lemmas.Cmp.{eq_by_cmp_equiv, on_total, then_total}
use Rattle.std.proofs.lemmas.List.Sorted.{Contains-permutation, IsPermutation-map, IsPermutation-sym}
use Rattle.std.proofs.lemmas.Map.Lookups.{exact_bytes, exact_pairs}
use Rattle.std.proofs.lemmas.Map.Views.{Contains-from_any, list_any-from_Contains}
use Rattle.sqlite.specs.declared.types.Value.TheVariants.{Null}
use Rattle.sqlite.specs.Order.{Row, column}
use Rattle.sqlite.specs.Program.{overlay}
use Rattle.sqlite.specs.Query.{IsAnswer, Output, output}
use Rattle.sqlite.specs.State.{State, Shown}
use Rattle.sqlite.specs.Term.{Term}
use Rattle.sqlite.specs.Tree.{Trees, rowid}
use Rattle.sqlite.proofs.Callers.{reads_as}
use Rattle.sqlite_value.specs.declared.keys.Key.{Key as SortKey}
use Rattle.dr_base.specs.Texts.{Text, text_cmp}
use Rattle.dr_ledger.specs.declared.item.Instance.{Instance}
use Rattle.dr_ledger.specs.declared.item.Outcome.{Outcome}
use Rattle.dr_ledger.specs.Books.{Line}
use Rattle.dr_ledger.specs.Pairs.{pair_cmp}
use Rattle.dr_ledger.specs.Replies.{Lists}
use Rattle.dr_store_schema.specs.Books.{all_kept_in, arrivals_in, instance_in, keeps_in, line_by, numbered_line, rows_of, targets_in}
use Rattle.dr_store_schema.specs.Cells.{number_in, outcome_in, text_in}
use Rattle.dr_store_schema.specs.Statements as text
use Rattle.dr_store_schema.specs.Tables.{tables}
use Rattle.dr_store_writes.proofs.Keys.{pairs_exact, pairs_total}
use Rattle.dr_store_writes.proofs.Maps as maps
use Rattle.dr_store_lists.specs.Lists.{IsJournal, NotesAreLines, goal_cmp, goals_of, keys_of, line_of, note_by, note_in, shown_entry, shown_goal, shown_key_entry, shown_note, shown_note_entry, shown_pair, shown_print_entry, whole_prints_of}
use Rattle.dr_store_reads.specs.Queries.{HasTables, shown_text}
use Rattle.dr_store_lists.specs.declared.listing.JournalRow.{JournalRow}
use Rattle.dr_store_lists.proofs.Apart.{apart_as_listed}
use Rattle.dr_store_lists.proofs.Orders.{all_entries, both_T, every, first_T, second_T}
use Rattle.dr_store_reads.proofs.Points.{map_twice}
use Rattle.dr_store_lists.proofs.Wholes as whole
use Rattle.dr_store_lists.proofs.Wholes.{listing}

-- what has all images of some elements has that of each
all_in : {X Y : Type 0} (ys : List Y) (g : X → Y) (xs : List X) → ((y : Y) → Contains (map g xs) y → Contains ys y) → AllByRecursion (λ x. Contains ys (g x)) xs
all_in ys g [] h = tt
all_in ys g (x ∷ xs) h = (h (g x) (0, omega arith, refl), all_in ys g xs (λ y there. let low = there.1 in h y (suc there.0, omega (arith, low), there.2)))

module _ (tree : ℕ) (shown : List Term) (order : List (Term × SortKey)) (db : Trees) (rows : List Row) (answer : IsAnswer (listing tree shown order) (overlay db []) [] rows)
    (grouped : answer.staged ≡ flat_map (λ r. ([] ∷ r ∷ []) ∷ []) (db tree)) where
  -- what is shown of a row
  abbrev pub listed : Row → Row
  listed r = (output (listing tree shown order) ([] ∷ r ∷ [])).1

  -- each row is shown once, in some order
  pub all_listed : IsPermutation (map listed (db tree)) rows
  all_listed =
      let q = listing tree shown order in
      let kept : answer.kept ≡ map (λ r. output q ([] ∷ r ∷ [])) (db tree) =
      answer.distinct ∙ ap (map (output q)) (grouped ∙ every (λ r. [] ∷ r ∷ []) (db tree)) ∙ map_twice (λ r. [] ∷ r ∷ []) (output q) (db tree) in
      let shown_ones : map (λ (o : Output). o.1) answer.kept ≡ map listed (db tree) = ap (map (λ (o : Output). o.1)) kept ∙ map_twice (λ r. output q ([] ∷ r ∷ [])) (λ (o : Output). o.1) (db tree) in
      subst (λ xs. IsPermutation xs rows) shown_ones
      (subst (λ xs. IsPermutation (map (λ (o : Output). o.1) answer.kept) xs) (sym answer.shown) (IsPermutation-map (λ (o : Output). o.1) answer.kept answer.ordered answer.same))

  -- where keys rise, the entries of a map are shown
  pub lists_entries : {K V : Type 0} {R : K → K → Ordering} → IsTotalOrder R → IsAntisymmetric R → (f : Row → K × V) → T (is_sorted R (map f rows))
      → map f rows ≡ entries (from_entries {R = R} (map (λ r. f (listed r)) (db tree)))
  lists_entries {R = R} total exact f sorted =
      let apart = apart_as_listed total exact f (map listed (db tree)) rows all_listed sorted in
      all_entries total exact f (map listed (db tree)) rows apart all_listed sorted ∙ ap (λ es. entries (from_entries {R = R} es)) (map_twice listed f (db tree))

  -- and the elements of a set
  pub lists_set : {K : Type 0} {R : K → K → Ordering} → IsTotalOrder R → IsAntisymmetric R → (f : Row → K) → IsStrictlySortedBy R (map f rows)
      → Lists R (set.from_list (map (λ r. f (listed r)) (db tree))) (map f rows)
  lists_set {K} {R} total exact f sorted = record {
    ordered = sorted;
    each = λ x. (
      λ there. set.contains-from_list total (map (λ r. f (listed r)) (db tree)) x
          ∙ list_any-from_Contains (eq_by_cmp_equiv total) x (map (λ r. f (listed r)) (db tree)) (Contains-permutation (map f rows) (map (λ r. f (listed r)) (db tree)) x (IsPermutation-sym _ _ same) there),
      λ has. Contains-permutation (map (λ r. f (listed r)) (db tree)) (map f rows) x same
          (Contains-from_any (λ a b tied. exact a b (maps.equal (R a b) tied)) x (map (λ r. f (listed r)) (db tree)) (sym (set.contains-from_list total (map (λ r. f (listed r)) (db tree)) x) ∙ has)),
    );
  }
    where
      same : IsPermutation (map (λ r. f (listed r)) (db tree)) (map f rows)
      same = subst (λ xs. IsPermutation xs (map f rows)) (map_twice listed f (db tree)) (IsPermutation-map f (map listed (db tree)) rows all_listed)

  -- and each row
  pub lists_each : {Y : Type 0} (f : Row → Y) → AllByRecursion (λ r. Contains (map f rows) (f (listed r))) (db tree)
  lists_each {Y} f = all_in (map f rows) (λ r. f (listed r)) (db tree) (λ y there. Contains-permutation (map (λ r. f (listed r)) (db tree)) (map f rows) y same there)
    where
      same : IsPermutation (map (λ r. f (listed r)) (db tree)) (map f rows)
      same = subst (λ xs. IsPermutation xs (map f rows)) (map_twice listed f (db tree)) (IsPermutation-map f (map listed (db tree)) rows all_listed)

pub keys_listed : (old new : State) (rows : List Row) → HasTables old.now → Shown text.all_items [] old new rows → T (is_sorted text_cmp (map shown_key_entry rows)) → map shown_key_entry rows ≡ entries (keys_of old.now.trees)
keys_listed old new rows has h sorted =
    let answer : IsAnswer (listing 1 whole.all_items_shown whole.all_items_order) (overlay old.now.trees []) [] rows = (reads_as text.all_items [] old new tables has _ whole.all_items.command whole.all_items.plain whole.all_items.listing rows h).answer Null in
    lists_entries 1 whole.all_items_shown whole.all_items_order old.now.trees rows answer answer.grouped nat_list_cmp_total exact_bytes shown_key_entry sorted

pub prints_listed : (old new : State) (rows : List Row) → HasTables old.now → Shown text.all_prints [] old new rows → T (is_sorted text_cmp (map shown_print_entry rows)) → map shown_print_entry rows ≡ entries (whole_prints_of old.now.trees)
prints_listed old new rows has h sorted =
    let answer : IsAnswer (listing 3 whole.all_prints_shown whole.all_prints_order) (overlay old.now.trees []) [] rows = (reads_as text.all_prints [] old new tables has _ whole.all_prints.command whole.all_prints.plain whole.all_prints.listing rows h).answer Null in
    lists_entries 3 whole.all_prints_shown whole.all_prints_order old.now.trees rows answer answer.grouped nat_list_cmp_total exact_bytes shown_print_entry sorted

pub rows_listed : (old new : State) (rows : List Row) → HasTables old.now → Shown text.all_rows [] old new rows → T (is_sorted pair_cmp (map shown_entry rows)) → map shown_entry rows ≡ entries (rows_of old.now.trees)
rows_listed old new rows has h sorted =
    let answer : IsAnswer (listing 9 whole.all_rows_shown whole.all_rows_order) (overlay old.now.trees []) [] rows = (reads_as text.all_rows [] old new tables has _ whole.all_rows.command whole.all_rows.plain whole.all_rows.listing rows h).answer Null in
    lists_entries 9 whole.all_rows_shown whole.all_rows_order old.now.trees rows answer answer.grouped pairs_total pairs_exact shown_entry sorted

pub arrivals_listed : (old new : State) (rows : List Row) → HasTables old.now → Shown text.all_arrivals [] old new rows → IsStrictlySortedBy pair_cmp (map shown_pair rows) → Lists pair_cmp (arrivals_in (old.now.trees 5)) (map shown_pair rows)
arrivals_listed old new rows has h sorted =
    let answer : IsAnswer (listing 5 whole.all_arrivals_shown whole.all_arrivals_order) (overlay old.now.trees []) [] rows = (reads_as text.all_arrivals [] old new tables has _ whole.all_arrivals.command whole.all_arrivals.plain whole.all_arrivals.listing rows h).answer Null in
    lists_set 5 whole.all_arrivals_shown whole.all_arrivals_order old.now.trees rows answer answer.grouped pairs_total pairs_exact shown_pair sorted

pub kept_listed : (old new : State) (rows : List Row) → HasTables old.now → Shown text.all_kept [] old new rows → IsStrictlySortedBy text_cmp (map shown_text rows) → Lists text_cmp (all_kept_in (old.now.trees 7)) (map shown_text rows)
kept_listed old new rows has h sorted =
    let answer : IsAnswer (listing 7 whole.all_kept_shown whole.all_kept_order) (overlay old.now.trees []) [] rows = (reads_as text.all_kept [] old new tables has _ whole.all_kept.command whole.all_kept.plain whole.all_kept.listing rows h).answer Null in
    lists_set 7 whole.all_kept_shown whole.all_kept_order old.now.trees rows answer answer.grouped nat_list_cmp_total exact_bytes shown_text sorted

pub goals_total : IsTotalOrder goal_cmp
goals_total = then_total (on_total (λ e. e.0) nat_cmp_total) (on_total (λ e. e.1) nat_list_cmp_total)

pub goals_exact : IsAntisymmetric goal_cmp
goals_exact = exact_pairs nat_cmp (slice_cmp nat_cmp) fin.nat_cmp-IsAntisymmetric exact_bytes

pub targets_listed : (old new : State) (rows : List Row) → HasTables old.now → Shown text.all_targets [] old new rows → IsStrictlySortedBy goal_cmp (map shown_goal rows) → Lists goal_cmp (goals_of old.now.trees) (map shown_goal rows)
targets_listed old new rows has h sorted =
    let answer : IsAnswer (listing 12 whole.all_targets_shown whole.all_targets_order) (overlay old.now.trees []) [] rows = (reads_as text.all_targets [] old new tables has _ whole.all_targets.command whole.all_targets.plain whole.all_targets.listing rows h).answer Null in
    lists_set 12 whole.all_targets_shown whole.all_targets_order old.now.trees rows answer answer.grouped goals_total goals_exact shown_goal sorted

-- ---- the journal

noted : (targets : List Row) (n kind : ℕ) (caller : Text) (item : Instance) (uid dest : Text) (what : Outcome) (now : ℕ)
    → line_by kind caller item uid dest what now (targets_in targets n) (keeps_in targets n) ≡ line_of targets n (note_by kind caller item uid dest what now)
noted targets n zero caller item uid dest what now = refl
noted targets n (suc zero) caller item uid dest what now = refl
noted targets n (suc (suc zero)) caller item uid dest what now = refl
noted targets n (suc (suc (suc zero))) caller item uid dest what now = refl
noted targets n (suc (suc (suc (suc zero)))) caller item uid dest what now = refl
noted targets n (suc (suc (suc (suc (suc zero))))) caller item uid dest what now = refl
noted targets n (suc (suc (suc (suc (suc (suc zero)))))) caller item uid dest what now = refl
noted targets n (suc (suc (suc (suc (suc (suc (suc more))))))) caller item uid dest what now = refl

pub notes_are_lines : NotesAreLines
notes_are_lines targets row = noted targets (number_in (rowid row)) (number_in (column row 2)) (text_in (column row 3)) (instance_in row) (text_in (column row 4)) (text_in (column row 5)) (outcome_in (column row 6)) (number_in (column row 7))

-- whether keys rise is seen at the keys alone
same_below : {K V W : Type 0} (R : K → K → Ordering) (k : K) (key : Row → K) (f : Row → V) (g : Row → W) (rows : List Row) → T (below_all R k (map (λ r. (key r, f r)) rows)) → T (below_all R k (map (λ r. (key r, g r)) rows))
same_below R k key f g [] h = tt
same_below R k key f g (r ∷ rows) h = both_T (is_lt (R k (key r))) _ (first_T (is_lt (R k (key r))) _ h) (same_below R k key f g rows (second_T (is_lt (R k (key r))) _ h))

same_order : {K V W : Type 0} (R : K → K → Ordering) (key : Row → K) (f : Row → V) (g : Row → W) (rows : List Row) → T (is_sorted R (map (λ r. (key r, f r)) rows)) → T (is_sorted R (map (λ r. (key r, g r)) rows))
same_order R key f g [] h = tt
same_order R key f g (r ∷ rows) h =
    both_T (below_all R (key r) (map (λ x. (key x, g x)) rows)) _ (same_below R (key r) key f g rows (first_T (below_all R (key r) (map (λ x. (key x, f x)) rows)) _ h))
    (same_order R key f g rows (second_T (below_all R (key r) (map (λ x. (key x, f x)) rows)) _ h))

same_map : {X Y : Type 0} (f g : X → Y) → ((x : X) → f x ≡ g x) → (xs : List X) → map f xs ≡ map g xs
same_map f g is [] = refl
same_map f g is (x ∷ xs) = λ i. is x i ∷ same_map f g is xs i

pub journal_listed : (old new : State) (rows : List Row) → HasTables old.now → Shown text.all_lines [] old new rows → T (is_sorted nat_cmp (map shown_note_entry rows)) → IsJournal old.now.trees (map shown_note_entry rows)
journal_listed old new rows has h sorted = record {
  each = lists_each 11 whole.all_lines_shown whole.all_lines_order old.now.trees rows answer answer.grouped shown_note_entry;
  notes = lists_entries 11 whole.all_lines_shown whole.all_lines_order old.now.trees rows answer answer.grouped nat_cmp_total fin.nat_cmp-IsAntisymmetric shown_note_entry sorted;
  lines = λ targets.
      let told : Row → ℕ × Line = λ r. (number_in (column r 0), line_of targets (number_in (column r 0)) (shown_note r)) in
      map_twice shown_note_entry (λ (e : ℕ × JournalRow). line_of targets e.0 e.1) rows ∙ sym (map_twice told (λ (e : ℕ × Line). e.1) rows)
      ∙ ap (map (λ (e : ℕ × Line). e.1))
      (lists_entries 11 whole.all_lines_shown whole.all_lines_order old.now.trees rows answer answer.grouped nat_cmp_total fin.nat_cmp-IsAntisymmetric told
      (same_order nat_cmp (λ r. number_in (column r 0)) shown_note (λ r. line_of targets (number_in (column r 0)) (shown_note r)) rows sorted)
      ∙ ap (λ es. entries (from_entries {R = nat_cmp} es))
      (same_map (λ r. (number_in (rowid r), line_of targets (number_in (rowid r)) (note_in r))) (numbered_line targets) (λ r. ap (λ l. (number_in (rowid r), l)) (sym (notes_are_lines targets r))) (old.now.trees 11)));
}
  where
    answer : IsAnswer (listing 11 whole.all_lines_shown whole.all_lines_order) (overlay old.now.trees []) [] rows
    answer = (reads_as text.all_lines [] old new tables has _ whole.all_lines.command whole.all_lines.plain whole.all_lines.listing rows h).answer Null
