-- How many rows are at a stage, arrivals and kept uids.
use Rattle.std.proofs.Common.{◌≡◌, ◌≢◌, ℕ, ℤ, pos, List, [], ◌∷◌, map, filter, length, Bool, true, false, ◌&&◌, cond, min, Option, Some, refl, sym, ap, subst, ◌∙◌}
use Rattle.std.specs.declared.cmp.Ordering.{Ordering}
use Rattle.std.specs.declared.cmp.Ordering.TheVariants.{Less, Equal, Greater}
use Rattle.std.specs.Ordering.{eq_by_cmp, is_eq, is_ne, nat_cmp}
use Rattle.std.specs.Cmp.Lexicographic.{nat_list_cmp_total, slice_cmp}
use Rattle.std.specs.FinMap.{entries}
use Rattle.std.specs.FinSet as set
use Rattle.std.specs.List.{AllByRecursion, IsDistinct}
use Rattle.std.specs.Str.{bytes_eq}
use Rattle.std.proofs.lemmas.Cmp.{tied_itself}
use Rattle.std.proofs.lemmas.List.{length-map}
use Rattle.std.proofs.lemmas.Map.Text.{is_eq-slice_cmp}
use Rattle.sqlite.specs.declared.types.Value.TheVariants.{Int, Null, Text as TextCell}
use Rattle.sqlite.specs.Effect.{Database}
use Rattle.sqlite.specs.Order.{Row, column, value_cmp}
use Rattle.sqlite.specs.Program.{overlay}
use Rattle.sqlite.specs.Query.{IsAnswer}
use Rattle.sqlite.specs.State.{State, Shown}
use Rattle.sqlite.specs.Tree.{IsAscending, rowid}
use Rattle.sqlite.proofs.Callers.{reads_as}
use Rattle.sqlite_catalog.specs.Listing.{IsSound}
use Rattle.sqlite_schema.specs.declared.schema.Constraint.TheVariants.{Unique}
use Rattle.sqlite_schema.specs.Rules.{agree, differ}
use Rattle.sqlite_sql.specs.Ops.{binary}
use Rattle.sqlite_sql.specs.declared.ops.CompareOp.TheVariants.{Eq}
use Rattle.std.proofs.lemmas.Map.Lookups.{exact_signed}
use Rattle.sqlite_trees.proofs.ListLemmas.{all_weaker}
use Rattle.sqlite_trees.proofs.TreeLemmas.{not_true}
use Rattle.sqlite_value.proofs.KeyLemmas.{first_key-plain}
use Rattle.sqlite_value.proofs.OrderLemmas.{value_cmp-Int}
use Rattle.sqlite_value.specs.Keys.{plain}
use Rattle.dr_base.specs.Texts.{Text}
use Rattle.dr_ledger.specs.Pairs.{Pair, pair_cmp}
use Rattle.dr_ledger_views.specs.declared.stage.Stage.{Stage}
use Rattle.dr_ledger_views.specs.Views.{how_many, is_at, is_to, number_of}
use Rattle.dr_ledger_views.proofs.Sets.{set_of_apart}
use Rattle.dr_store_schema.specs.Books.{arrival_in, arrivals_in, entry_in, rows_of}
use Rattle.dr_store_schema.specs.Cells.{number_in}
use Rattle.dr_store_schema.specs.Ledgers.{IsLedger}
use Rattle.dr_store_schema.specs.Tables.{tables}
use Rattle.dr_store_writes.proofs.Keys.{IsQueueRow, apart_in, arrival_rows, int_test, key_of, pairs_exact, pairs_total, same_text, truth_of}
use Rattle.dr_store_writes.proofs.Maps as maps
use Rattle.dr_store_writes.proofs.Updated.{hits}
use Rattle.dr_store_reads.specs.Queries.{first_of}
use Rattle.dr_store_views.specs.Answers.{IsCount}
use Rattle.dr_store_views.specs.Statements as text
use Rattle.dr_store_views.proofs.Grouped.{all_counted, count_mapped, count_permuted, count_shown, most}
use Rattle.dr_store_views.proofs.Rows.{IsOurs, all_rows, are_ours, at_state, int_of_nat, progress_of}
use Rattle.dr_store_views.proofs.Selects as select

abbrev pub number_first : List Row → Option ℕ
number_first = first_of (λ (row : Row). number_in (column row 0))

inside : {X : Type 0} (x y : X) → Some x ≡ Some y → x ≡ y
inside x y e = cc

-- what the answer says is how many there are
pub counted_is : (rows : List Row) (n all : ℕ) → IsCount rows n → number_first rows ≡ Some (min all most) → n ≡ all
counted_is rows n all is says = all_counted all n (inside n (min all most) (sym is.first ∙ says)) is.below

and_true : (b : Bool) → (b && true) ≡ b
and_true true = refl
and_true false = refl

-- ---- rows at a stage

module _ (dest : Text) (named : Stage) where
  abbrev pub state_params : Row
  state_params = TextCell dest ∷ Int (pos (number_of named)) ∷ []

  row_test : (row : Row) (is : IsOurs row)
      → hits select.at_state state_params row ≡ (is_eq (slice_cmp nat_cmp is.queue.at.1 dest) && (is_eq (nat_cmp is.counted.state (number_of named)) && true))
  row_test row is =
      rw (is.queue.dest, is.counted.state_is, same_text is.queue.at.1 dest, int_test Eq (pos is.counted.state) (pos (number_of named)), int_of_nat is.counted.state (number_of named))

  entry_test : (row : Row) (is : IsOurs row) → is_to dest (Some named) (entry_in row) ≡ (is_eq (slice_cmp nat_cmp is.queue.at.1 dest) && is_eq (nat_cmp is.counted.state (number_of named)))
  entry_test row is =
      let to : bytes_eq (entry_in row).0.1 dest ≡ is_eq (slice_cmp nat_cmp is.queue.at.1 dest) =
      ap (λ (k : Pair). bytes_eq k.1 dest) (key_of row is.queue) ∙ sym (is_eq-slice_cmp is.queue.at.1 dest) in
      let at : is_at (Some named) (entry_in row).1 ≡ is_eq (nat_cmp is.counted.state (number_of named)) =
      ap (is_at (Some named)) (progress_of row is) ∙ at_state named is.counted.state _ _ _ is.counted.known in
      λ i. to i && at i

  fits : (row : Row) (is : IsOurs row) → hits select.at_state state_params row ≡ is_to dest (Some named) (entry_in row)
  fits row is = row_test row is ∙ ap (λ b. is_eq (slice_cmp nat_cmp is.queue.at.1 dest) && b) (and_true _) ∙ sym (entry_test row is)

  pub rows_counted : (old new : State) (rows : List Row) → IsLedger old.now → Shown text.count_rows state_params old new rows
      → number_first rows ≡ Some (min (how_many (entries (rows_of old.now.trees)) dest (Some named)) most)
  rows_counted old new rows has h =
      let answer : IsAnswer (select.counted 9 select.at_state) (overlay old.now.trees []) state_params rows =
      (reads_as text.count_rows state_params old new tables has.schema _ select.count_at_state.command select.count_at_state.plain select.count_at_state.listing rows h).answer Null in
      count_shown 9 select.at_state old.now.trees state_params rows answer answer.grouped
      ∙ ap (λ n. Some (min n most))
      (count_mapped (hits select.at_state state_params) entry_in (is_to dest (Some named)) (old.now.trees 9) (all_weaker IsOurs _ (λ row is. fits row is) (old.now.trees 9) (are_ours old.now has))
      ∙ sym (count_permuted (is_to dest (Some named)) (map entry_in (old.now.trees 9)) (entries (rows_of old.now.trees)) (all_rows old.now has)))

-- ---- arrivals

abbrev HasPair : Row → Pair → Type 0
HasPair row at = (column row 1 ≡ TextCell at.0) × (column row 2 ≡ TextCell at.1)

abbrev pair_clash : Row → Row → Bool
pair_clash other row = agree plain (1 ∷ 2 ∷ []) other (1 ∷ 2 ∷ []) row && differ (rowid other) (rowid row)

its_other : (o : Ordering) → (o ≡ Equal → ⊥) → is_ne o ≡ true
its_other Less h = refl
its_other Equal h = absurd (h refl)
its_other Greater h = refl

other_rowid : (m n : ℤ) → m ≢ n → differ (Int m) (Int n) ≡ true
unfolding binary
other_rowid m n other = truth_of (is_ne (value_cmp (Int m) (Int n))) ∙ its_other _ (λ e. other (exact_signed m n (sym (value_cmp-Int m n) ∙ e)))

pair_clashing : (r x : Row) (v w : ℤ) (k : Pair) → rowid r ≡ Int v → rowid x ≡ Int w → HasPair r k → HasPair x k → v ≢ w → pair_clash r x ≡ true
pair_clashing r x v w k r0 x0 rk xk less =
    rw (first_key-plain, rk.0, xk.0, rk.1, xk.1, same_text k.0 k.0, same_text k.1 k.1, tied_itself nat_list_cmp_total k.0, tied_itself nat_list_cmp_total k.1, r0, x0, other_rowid v w less)

pair_of : (row : Row) (k : Pair) → HasPair row k → arrival_in row ≡ k
pair_of row k is = rw (is.0, is.1)

arrivals_apart : (db : Database) → IsLedger db → IsAscending (λ a b. arrival_in a ≢ arrival_in b) (db.trees 5)
arrivals_apart db is =
    let obeys = (subst (λ s. IsSound s db.trees) is.schema is.sound).obeys in
    apart_in HasPair pair_clash arrival_in pair_of pair_clashing (db.trees 5) is.arrivals
    (all_weaker IsQueueRow (λ row. (k : Pair) × HasPair row k) (λ row h. (h.at, (h.uid, h.dest))) (db.trees 5) (arrival_rows db is)) (obeys.rules Unique).1.1.1.0

distinct_arrivals : (rows : List Row) → IsAscending (λ a b. arrival_in a ≢ arrival_in b) rows → IsDistinct (eq_by_cmp pair_cmp) (map arrival_in rows)
unfolding IsDistinct
distinct_arrivals [] h = tt
distinct_arrivals (row ∷ rows) h = (others rows h.0, distinct_arrivals rows h.1)
  where
    others : (xs : List Row) → AllByRecursion (λ b. arrival_in row ≢ arrival_in b) xs → AllByRecursion (λ y. eq_by_cmp pair_cmp (arrival_in row) y ≡ false) (map arrival_in xs)
    others [] h = tt
    others (x ∷ xs) h = (not_true _ (λ same. h.0 (pairs_exact (arrival_in row) (arrival_in x) (maps.equal _ same))), others xs h.1)

all_kept_by : {X : Type 0} (p : X → Bool) (xs : List X) → ((x : X) → p x ≡ true) → filter p xs ≡ xs
all_kept_by p [] h = refl
all_kept_by p (x ∷ xs) h = ap (λ b. cond b (x ∷ filter p xs) (filter p xs)) (h x) ∙ ap (λ ys. x ∷ ys) (all_kept_by p xs h)

pub arrivals_counted : (old new : State) (rows : List Row) → IsLedger old.now → Shown text.count_arrivals [] old new rows → number_first rows ≡ Some (min (set.len (arrivals_in (old.now.trees 5))) most)
arrivals_counted old new rows has h =
    let answer : IsAnswer (select.counted 5 []) (overlay old.now.trees []) [] rows =
    (reads_as text.count_arrivals [] old new tables has.schema _ select.count_arrivals.command select.count_arrivals.plain select.count_arrivals.listing rows h).answer Null in
    count_shown 5 [] old.now.trees [] rows answer answer.grouped
    ∙ ap (λ n. Some (min n most))
    (ap length (all_kept_by (hits [] []) (old.now.trees 5) (λ row. refl))
    ∙ sym (set_of_apart pairs_total (map arrival_in (old.now.trees 5)) (distinct_arrivals (old.now.trees 5) (arrivals_apart old.now has)) ∙ length-map (old.now.trees 5) arrival_in))
