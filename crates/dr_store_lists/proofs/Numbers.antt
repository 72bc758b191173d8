-- What a list of rowids shows, and a list of the numbers in queue.
use Rattle.std.proofs.Common.{◌≡◌, ◌≢◌, ℕ, ℤ, List, [], ◌∷◌, map, T, IsTrue, refl, sym, ap, subst, ◌∙◌}
use Rattle.std.specs.Ordering.{int_cmp}
use Rattle.std.specs.FinMap.Entries.{is_sorted}
use Rattle.std.specs.List.{AllByRecursion}
use Rattle.std.specs.List.Sorted.{IsPermutation}
use Rattle.std.proofs.lemmas.Cmp.{int_cmp_total}
use Rattle.std.proofs.lemmas.List.Sorted.{IsPermutation-sym}
use Rattle.std.proofs.lemmas.Map.Lookups.{exact_signed}
use Rattle.sqlite.specs.declared.types.Value.TheVariants.{Int, Null}
use Rattle.sqlite.specs.Order.{Row, column}
use Rattle.sqlite.specs.Program.{overlay}
use Rattle.sqlite.specs.Query.{IsAnswer}
use Rattle.sqlite.specs.State.{State, Shown}
use Rattle.sqlite.specs.Tree.{rowid, IsAscending}
use Rattle.sqlite.proofs.Callers.{reads_as}
use Rattle.sqlite_rules.specs.Edit.{id_in}
use Rattle.sqlite_trees.specs.View.{is_int}
use Rattle.sqlite_trees.proofs.ListLemmas.{all-map, all_from_map, all-permutation, all_of, all_weaker}
use Rattle.dr_store_schema.specs.Books.{AreBelow}
use Rattle.dr_store_schema.specs.Ledgers.{AreRows, IsCounted}
use Rattle.dr_store_schema.specs.Statements as text
use Rattle.dr_store_schema.specs.Tables.{tables}
use Rattle.dr_store_reads.specs.Queries.{HasTables, IsCountedAsShown, IsNumberedBelow}
use Rattle.dr_store_lists.proofs.Apart.{apart_as_listed}
use Rattle.dr_store_lists.proofs.Lists.{all_listed}
use Rattle.dr_store_reads.proofs.Points.{map_twice}
use Rattle.dr_store_reads.proofs.Selects as select
use Rattle.dr_store_lists.proofs.Wholes as whole
use Rattle.dr_store_lists.proofs.Wholes.{listing}

abbrev its_rowid : Row → Row
its_rowid r = rowid r ∷ []

abbrev id_of : Row → ℤ × Unit {0}
id_of r = (id_in (column r 0), tt)

map_itself : (ids : List (ℤ × Unit {0})) → map (λ (e : ℤ × Unit {0}). (e.0, tt)) ids ≡ ids
map_itself [] = refl
map_itself (e ∷ ids) = ap (λ es. e ∷ es) (map_itself ids)

apart_back : (table : List Row) → IsAscending (λ a b. (id_of a).0 ≢ (id_of b).0) (map its_rowid table) → IsAscending (λ a b. rowid a ≢ rowid b) table
apart_back [] h = tt
apart_back (r ∷ table) h = (weaker table (all_from_map (λ b. (id_of (its_rowid r)).0 ≢ (id_of b).0) its_rowid table h.0), apart_back table h.1)
  where
    weaker : (xs : List Row) → AllByRecursion (λ b. (id_of (its_rowid r)).0 ≢ (id_of (its_rowid b)).0) xs → AllByRecursion (λ b. rowid r ≢ rowid b) xs
    weaker [] h = tt
    weaker (x ∷ xs) h = ((λ same. h.0 (ap id_in same)), weaker xs h.1)

-- rowids that are integers and rise in one order differ in any
ids_differ : (table rows : List Row) → IsPermutation (map its_rowid table) rows → (ids : List (ℤ × Unit {0})) → map (λ (e : ℤ × Unit {0}). Int e.0) ids ≡ map (λ (r : Row). column r 0) rows → T (is_sorted int_cmp ids)
    → AreRows table
ids_differ table rows same ids read sorted =
    let keys : map id_of rows ≡ ids =
    sym (map_twice (λ (r : Row). column r 0) (λ v. (id_in v, tt)) rows) ∙ ap (map (λ v. (id_in v, tt))) (sym read) ∙ map_twice (λ (e : ℤ × Unit {0}). Int e.0) (λ v. (id_in v, tt)) ids ∙ map_itself ids in
    let apart = apart_as_listed int_cmp_total exact_signed id_of (map its_rowid table) rows same (subst (λ es. T (is_sorted int_cmp es)) (sym keys) sorted) in
    let ints : AllByRecursion (λ v. IsTrue (is_int v)) (map (λ (r : Row). column r 0) rows) =
    subst (AllByRecursion (λ v. IsTrue (is_int v))) read
    (all-map (λ v. IsTrue (is_int v)) (λ (e : ℤ × Unit {0}). Int e.0) ids (all_of (λ (e : ℤ × Unit {0}). IsTrue (is_int (Int e.0))) (λ e. refl) ids)) in
    record {
      apart = apart_back table apart;
      ints = all_from_map (λ (r : Row). IsTrue (is_int (column r 0))) its_rowid table
          (all-permutation (λ (r : Row). IsTrue (is_int (column r 0))) rows (map its_rowid table) (IsPermutation-sym _ _ same) (all_from_map (λ v. IsTrue (is_int v)) (λ (r : Row). column r 0) rows ints));
    }

pub item_rowids_differ : (old new : State) (rows : List Row) (ids : List (ℤ × Unit {0})) → HasTables old.now → Shown text.item_rowids [] old new rows
    → map (λ (e : ℤ × Unit {0}). Int e.0) ids ≡ map (λ (r : Row). column r 0) rows → T (is_sorted int_cmp ids) → AreRows (old.now.trees 1)
item_rowids_differ old new rows ids has h =
    let answer : IsAnswer (listing 1 whole.item_rowids_shown whole.item_rowids_order) (overlay old.now.trees []) [] rows = (reads_as text.item_rowids [] old new tables has _ whole.item_rowids.command whole.item_rowids.plain whole.item_rowids.listing rows h).answer Null in
    ids_differ (old.now.trees 1) rows (all_listed 1 whole.item_rowids_shown whole.item_rowids_order old.now.trees rows answer answer.grouped) ids

pub print_rowids_differ : (old new : State) (rows : List Row) (ids : List (ℤ × Unit {0})) → HasTables old.now → Shown text.print_rowids [] old new rows
    → map (λ (e : ℤ × Unit {0}). Int e.0) ids ≡ map (λ (r : Row). column r 0) rows → T (is_sorted int_cmp ids) → AreRows (old.now.trees 3)
print_rowids_differ old new rows ids has h =
    let answer : IsAnswer (listing 3 whole.print_rowids_shown whole.print_rowids_order) (overlay old.now.trees []) [] rows = (reads_as text.print_rowids [] old new tables has _ whole.print_rowids.command whole.print_rowids.plain whole.print_rowids.listing rows h).answer Null in
    ids_differ (old.now.trees 3) rows (all_listed 3 whole.print_rowids_shown whole.print_rowids_order old.now.trees rows answer answer.grouped) ids

pub arrival_rowids_differ : (old new : State) (rows : List Row) (ids : List (ℤ × Unit {0})) → HasTables old.now → Shown text.arrival_rowids [] old new rows
    → map (λ (e : ℤ × Unit {0}). Int e.0) ids ≡ map (λ (r : Row). column r 0) rows → T (is_sorted int_cmp ids) → AreRows (old.now.trees 5)
arrival_rowids_differ old new rows ids has h =
    let answer : IsAnswer (listing 5 whole.arrival_rowids_shown whole.arrival_rowids_order) (overlay old.now.trees []) [] rows = (reads_as text.arrival_rowids [] old new tables has _ whole.arrival_rowids.command whole.arrival_rowids.plain whole.arrival_rowids.listing rows h).answer Null in
    ids_differ (old.now.trees 5) rows (all_listed 5 whole.arrival_rowids_shown whole.arrival_rowids_order old.now.trees rows answer answer.grouped) ids

pub queue_rowids_differ : (old new : State) (rows : List Row) (ids : List (ℤ × Unit {0})) → HasTables old.now → Shown text.queue_rowids [] old new rows
    → map (λ (e : ℤ × Unit {0}). Int e.0) ids ≡ map (λ (r : Row). column r 0) rows → T (is_sorted int_cmp ids) → AreRows (old.now.trees 9)
queue_rowids_differ old new rows ids has h =
    let answer : IsAnswer (listing 9 whole.queue_rowids_shown whole.queue_rowids_order) (overlay old.now.trees []) [] rows = (reads_as text.queue_rowids [] old new tables has _ whole.queue_rowids.command whole.queue_rowids.plain whole.queue_rowids.listing rows h).answer Null in
    ids_differ (old.now.trees 9) rows (all_listed 9 whole.queue_rowids_shown whole.queue_rowids_order old.now.trees rows answer answer.grouped) ids

pub numbers_below : (old new : State) (rows : List Row) (next : ℕ) → HasTables old.now → Shown text.journal_rowids [] old new rows → AllByRecursion (IsNumberedBelow next) rows → AreBelow next (old.now.trees 11)
numbers_below old new rows next has h below =
    let answer : IsAnswer (listing 11 whole.journal_rowids_shown whole.journal_rowids_order) (overlay old.now.trees []) [] rows =
    (reads_as text.journal_rowids [] old new tables has _ whole.journal_rowids.command whole.journal_rowids.plain whole.journal_rowids.listing rows h).answer Null in
    let same = all_listed 11 whole.journal_rowids_shown whole.journal_rowids_order old.now.trees rows answer answer.grouped in
    all_from_map (IsNumberedBelow next) its_rowid (old.now.trees 11) (all-permutation (IsNumberedBelow next) rows (map its_rowid (old.now.trees 11)) (IsPermutation-sym _ _ same) below)

abbrev its_counts : Row → Row
its_counts r = column r 3 ∷ column r 5 ∷ []

pub counts_shown : (old new : State) (rows : List Row) → HasTables old.now → Shown text.queue_counts [] old new rows → AllByRecursion IsCountedAsShown rows → AllByRecursion IsCounted (old.now.trees 9)
counts_shown old new rows has h counted =
    let answer : IsAnswer (listing 9 select.counts_shown []) (overlay old.now.trees []) [] rows =
    (reads_as text.queue_counts [] old new tables has _ select.queue_counts.command select.queue_counts.plain select.queue_counts.listing rows h).answer Null in
    let same = all_listed 9 select.counts_shown [] old.now.trees rows answer answer.grouped in
    all_weaker (λ r. IsCountedAsShown (its_counts r)) IsCounted (λ r it. record { state = it.state; due = it.due; state_is = it.state_is; due_is = it.due_is; known = it.known; fits = it.fits }) (old.now.trees 9)
    (all_from_map IsCountedAsShown its_counts (old.now.trees 9) (all-permutation IsCountedAsShown rows (map its_counts (old.now.trees 9)) (IsPermutation-sym _ _ same) counted))
