-- The rows of queue and of arrival as a ledger's, and the entries that they are.
use Rattle.std.proofs.Common.{◌≡◌, ◌≢◌, ◌<◌, ℕ, zero, suc, pos, List, [], ◌∷◌, map, false, ◌&&◌, Option, None, Some, refl, sym, ap, ◌∙◌, arith, nat_abs, ltb→lt}
use Rattle.std.specs.declared.cmp.Ordering.{Ordering}
use Rattle.std.specs.declared.cmp.Ordering.TheVariants.{Less, Equal, Greater}
use Rattle.std.specs.Ordering.{eq_by_cmp, int_cmp, is_eq, is_ge, is_le, nat_cmp}
use Rattle.std.specs.Cmp.{nat_cmp_is}
use Rattle.std.specs.Cmp.Lexicographic.{slice_cmp}
use Rattle.std.specs.FinMap.{entries}
use Rattle.std.specs.List.{AllByRecursion, IsDistinct}
use Rattle.std.specs.List.Sorted.{IsPermutation}
use Rattle.std.proofs.lemmas.Cmp.{int_ranked}
use Rattle.sqlite.specs.Collation.TheVariants.{Binary}
use Rattle.sqlite.specs.declared.types.Value.TheVariants.{Text as TextCell}
use Rattle.sqlite.specs.Effect.{Database}
use Rattle.sqlite.specs.Order.{Row, column, value_cmp}
use Rattle.sqlite.specs.Tree.{IsAscending}
use Rattle.sqlite_sql.specs.Ops.{binary, is_true, test}
use Rattle.sqlite_sql.specs.declared.ops.BinaryOp.TheVariants.{Compare}
use Rattle.sqlite_sql.specs.declared.ops.CompareOp.{CompareOp}
use Rattle.sqlite_trees.proofs.TreeLemmas.{not_true}
use Rattle.sqlite_value.proofs.OrderLemmas.{value_cmp-Text}
use Rattle.dr_ledger.specs.declared.item.Cause.{Cause}
use Rattle.dr_ledger.specs.Pairs.{pair_cmp}
use Rattle.dr_ledger_views.specs.declared.stage.Stage.{Stage}
use Rattle.dr_ledger_views.specs.declared.stage.Stage.TheVariants as stage
use Rattle.dr_ledger_views.specs.Views.{is_at, number_of}
use Rattle.dr_ledger_views.proofs.Ordered.{AreApart, entries_permuted}
use Rattle.dr_store_schema.specs.Books.{entry_in, rows_of}
use Rattle.dr_store_schema.specs.Cells.{cause_in, number_in, progress_by}
use Rattle.dr_store_schema.specs.Ledgers.{IsCounted, IsLedger}
use Rattle.dr_store_writes.proofs.Keys.{IsQueueRow, all_both, pairs_exact, pairs_total, queue_apart, queue_rows, truth_of}
use Rattle.dr_store_writes.proofs.Maps as maps
use Rattle.dr_store_views.specs.Answers.{greatest_state, least_state}

-- ---- numbers and texts

pub int_of_nat : (m n : ℕ) → int_cmp (pos m) (pos n) ≡ nat_cmp m n
int_of_nat m n = go (int_cmp (pos m) (pos n)) refl
  where
    go : (r : Ordering) → r ≡ int_cmp (pos m) (pos n) → int_cmp (pos m) (pos n) ≡ nat_cmp m n
    go Less e = sym e ∙ nat_cmp_is m n Less (ltb→lt m n (int_ranked (pos m) (pos n) Less e).lt)
    go Equal e = sym e ∙ nat_cmp_is m n Equal (ap nat_abs (int_ranked (pos m) (pos n) Equal e))
    go Greater e = sym e ∙ nat_cmp_is m n Greater (ltb→lt n m (int_ranked (pos m) (pos n) Greater e).lt)

pub text_test : (op : CompareOp) (s t : List ℕ) → is_true (binary (Compare op Binary) (TextCell s) (TextCell t)) ≡ test op (slice_cmp nat_cmp s t)
unfolding binary
text_test op s t = truth_of (test op (value_cmp (TextCell s) (TextCell t))) ∙ ap (test op) (value_cmp-Text s t)

-- ---- rows of queue

-- a row of queue with a ledger's numbers
pub record IsOurs (row : Row) : Type 0 where
  pub queue : IsQueueRow row
  pub counted : IsCounted row

pub are_ours : (db : Database) → IsLedger db → AllByRecursion IsOurs (db.trees 9)
are_ours db has = all_both IsQueueRow IsCounted IsOurs (λ row q n. record { queue = q; counted = n }) (db.trees 9) (queue_rows db has) has.counted

pub progress_of : (row : Row) (is : IsOurs row) → (entry_in row).1 ≡ progress_by is.counted.state (number_in (column row 4)) is.counted.due (cause_in (column row 6))
progress_of row is = rw (is.counted.state_is, is.counted.due_is)

-- rows whose keys differ are entries whose keys differ
apart_entries : (rows : List Row) → IsAscending (λ a b. (entry_in a).0 ≢ (entry_in b).0) rows → AreApart pair_cmp (map entry_in rows)
unfolding IsDistinct
apart_entries [] h = tt
apart_entries (row ∷ rows) h = (others rows h.0, apart_entries rows h.1)
  where
    others : (xs : List Row) → AllByRecursion (λ b. (entry_in row).0 ≢ (entry_in b).0) xs → AllByRecursion (λ y. eq_by_cmp pair_cmp (entry_in row).0 y ≡ false) (map (λ e. e.0) (map entry_in xs))
    others [] h = tt
    others (x ∷ xs) h = (not_true _ (λ same. h.0 (pairs_exact (entry_in row).0 (entry_in x).0 (maps.equal _ same))), others xs h.1)

pub apart : (db : Database) → IsLedger db → AreApart pair_cmp (map entry_in (db.trees 9))
apart db has = apart_entries (db.trees 9) (queue_apart db has)

-- the book's rows are these entries, in another order
pub all_rows : (db : Database) → IsLedger db → IsPermutation (map entry_in (db.trees 9)) (entries (rows_of db.trees))
all_rows db has = entries_permuted pairs_total pairs_exact (map entry_in (db.trees 9)) (apart db has)

-- ---- stages and states

pub at_state : (named : Stage) (state tries due : ℕ) (why : Cause) → state < 4 → is_at (Some named) (progress_by state tries due why) ≡ is_eq (nat_cmp state (number_of named))
at_state stage.Waiting zero tries due why known = refl
at_state stage.Waiting (suc zero) tries due why known = refl
at_state stage.Waiting (suc (suc zero)) tries due why known = refl
at_state stage.Waiting (suc (suc (suc zero))) tries due why known = refl
at_state stage.Held zero tries due why known = refl
at_state stage.Held (suc zero) tries due why known = refl
at_state stage.Held (suc (suc zero)) tries due why known = refl
at_state stage.Held (suc (suc (suc zero))) tries due why known = refl
at_state stage.Done zero tries due why known = refl
at_state stage.Done (suc zero) tries due why known = refl
at_state stage.Done (suc (suc zero)) tries due why known = refl
at_state stage.Done (suc (suc (suc zero))) tries due why known = refl
at_state stage.Dropped zero tries due why known = refl
at_state stage.Dropped (suc zero) tries due why known = refl
at_state stage.Dropped (suc (suc zero)) tries due why known = refl
at_state stage.Dropped (suc (suc (suc zero))) tries due why known = refl
at_state named (suc (suc (suc (suc more)))) tries due why known = absurd (omega (arith, known))

pub in_states : (named : Option Stage) (state tries due : ℕ) (why : Cause) → state < 4
    → is_at named (progress_by state tries due why) ≡ (is_ge (nat_cmp state (least_state named)) && is_le (nat_cmp state (greatest_state named)))
in_states None zero tries due why known = refl
in_states None (suc zero) tries due why known = refl
in_states None (suc (suc zero)) tries due why known = refl
in_states None (suc (suc (suc zero))) tries due why known = refl
in_states (Some stage.Waiting) zero tries due why known = refl
in_states (Some stage.Waiting) (suc zero) tries due why known = refl
in_states (Some stage.Waiting) (suc (suc zero)) tries due why known = refl
in_states (Some stage.Waiting) (suc (suc (suc zero))) tries due why known = refl
in_states (Some stage.Held) zero tries due why known = refl
in_states (Some stage.Held) (suc zero) tries due why known = refl
in_states (Some stage.Held) (suc (suc zero)) tries due why known = refl
in_states (Some stage.Held) (suc (suc (suc zero))) tries due why known = refl
in_states (Some stage.Done) zero tries due why known = refl
in_states (Some stage.Done) (suc zero) tries due why known = refl
in_states (Some stage.Done) (suc (suc zero)) tries due why known = refl
in_states (Some stage.Done) (suc (suc (suc zero))) tries due why known = refl
in_states (Some stage.Dropped) zero tries due why known = refl
in_states (Some stage.Dropped) (suc zero) tries due why known = refl
in_states (Some stage.Dropped) (suc (suc zero)) tries due why known = refl
in_states (Some stage.Dropped) (suc (suc (suc zero))) tries due why known = refl
in_states named (suc (suc (suc (suc more)))) tries due why known = absurd (omega (arith, known))
