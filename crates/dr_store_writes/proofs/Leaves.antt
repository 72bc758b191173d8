-- What is of one instance leaves a table: just the rows in which its uid stands.
use Rattle.std.proofs.Common.{◌≡◌, inl, inr, ℕ, ℤ, List, [], ◌∷◌, filter, flat_map, cond, Bool, true, false, not, ◌&&◌, slice_get, Some, Ok, Err, Result, OnOk, refl, sym, subst, ◌∙◌, arith}
use Rattle.std.specs.List.{AllByRecursion}
use Rattle.sqlite.specs.declared.error.Error.{Error}
use Rattle.sqlite.specs.declared.types.Value.TheVariants.{Text}
use Rattle.sqlite.specs.Command.TheVariants.{Delete}
use Rattle.sqlite.specs.Edit.{Edit}
use Rattle.sqlite.specs.Listing.{understood}
use Rattle.sqlite.specs.Order.{Row, column}
use Rattle.sqlite.specs.Program.{overlay}
use Rattle.sqlite.specs.Query.{IsAnswer}
use Rattle.sqlite.specs.State.{State, ExecutesInside}
use Rattle.sqlite.specs.Table.{Table}
use Rattle.sqlite.proofs.Callers.{IsPlain, command_of, one_step}
use Rattle.sqlite_rules.specs.Action.{works}
use Rattle.sqlite_rules.specs.Calls.{ids_of}
use Rattle.sqlite_rules.specs.Edit.{taken_by}
use Rattle.sqlite_schema.specs.declared.schema.Keys.TheVariants.{Enforced}
use Rattle.sqlite_trees.proofs.ListLemmas.{all-filter, all_weaker}
use Rattle.dr_base.specs.Texts as texts
use Rattle.dr_store_schema.specs.Ledgers.{AreRows, IsCounted, IsLedger}
use Rattle.dr_store_schema.specs.Statements as text
use Rattle.dr_store_schema.specs.Tables as table
use Rattle.dr_store_schema.specs.Tables.{tables}
use Rattle.dr_store_writes.specs.Effects.{DropsOf, is_of_other}
use Rattle.dr_store_writes.proofs.Commands as command
use Rattle.dr_store_writes.proofs.Commands.{over}
use Rattle.dr_store_writes.proofs.Drops.{dropped_ids, left_alone, same_tests}
use Rattle.dr_store_writes.proofs.Inserted.{IsOrNot, bare, ledger_of, others_stay}
use Rattle.dr_store_writes.proofs.Keys.{IsQueueRow, IsUidRow, arrival_rows, item_uids, print_uids, queue_rows, same_text}
use Rattle.dr_store_writes.proofs.Maps.{rows_without}
use Rattle.dr_store_writes.proofs.Updated.{deleted, hits, matched}

-- its uid stands in that column
abbrev HasUidAt : ℕ → Row → Type 0
HasUidAt at row = (uid : List ℕ) × (column row at ≡ Text uid)

abbrev its_params : texts.Text → Row
its_params uid = Text uid ∷ []

and_true : (b : Bool) → (b && true) ≡ b
and_true true = refl
and_true false = refl

-- the rows that the condition doesn't take are those of other instances
not_taken : (at : ℕ) (uid : texts.Text) (row : Row) → HasUidAt at row → not (hits (command.by_uid_at at) (its_params uid) row) ≡ is_of_other at uid row
not_taken at uid row is = rw (is.1, same_text is.0 uid, and_true)

-- the transaction goes on, and the rows of the uid have left, if none of them sets anything off
leaves : (old new : State) (sql : List ℕ) (place at : ℕ) (t : Table) (uid : texts.Text) (count : ℕ) → IsLedger old.now
    → command_of (understood tables sql) ≡ Delete place (record { lets = []; body = over t.tree (command.by_uid_at at) command.dropped_shown }) → IsPlain (understood tables sql) → slice_get tables.tables place ≡ Some (bare t)
    → ((rows : List Row) (answer : IsAnswer (over t.tree (command.by_uid_at at) command.dropped_shown) (overlay old.now.trees []) (its_params uid) rows)
    → answer.staged ≡ flat_map (λ r. cond (hits (command.by_uid_at at) (its_params uid) r) ((its_params uid ∷ r ∷ []) ∷ []) []) (old.now.trees t.tree))
    → ((ids : List ℤ) → works tables Enforced 0 t.tree (taken_by old.now.trees (record { table = bare t; gone = ids; news = [] })) [] ≡ [])
    → AreRows (old.now.trees t.tree) → AllByRecursion (HasUidAt at) (old.now.trees t.tree) → IsOrNot t.tree 1 → IsOrNot t.tree 3 → IsOrNot t.tree 5 → IsOrNot t.tree 9
    → ExecutesInside 0 sql (its_params uid) old new (Ok count) → DropsOf t.tree at uid old new
leaves old new sql place at t uid count has is plain there grouped none are uids one three five nine h =
    let db = old.now.trees in
    let rows = db t.tree in
    let params = its_params uid in
    let test = hits (command.by_uid_at at) params in
    let stays = is_of_other at uid in
    let d = deleted old new sql params place t.tree (command.by_uid_at at) command.dropped_shown t count has.schema is plain there h in
    let staged = grouped d.0 d.1 ∙ matched test (λ r. params ∷ r ∷ []) rows in
    let ids = ids_of d.0 in
    let edit : Edit = record { table = bare t; gone = ids; news = [] } in
    let it = one_step tables Enforced db new.now.trees edit (none ids) d.2.writes in
    let others = others_stay t.tree db new.now.trees it.tables in
    let left : new.now.trees t.tree ≡ filter stays rows =
    it.rows ∙ left_alone test rows are ids (dropped_ids t.tree (command.by_uid_at at) db params d.0 d.1 staged)
    ∙ same_tests (λ r. not (test r)) stays rows (all_weaker (HasUidAt at) (λ r. not (test r) ≡ stays r) (not_taken at uid) rows uids) in
    record {
      goes_on = ledger_of t.tree old new has d.2.schema d.2.sound d.2.shown others one three five nine
          (λ was. subst AreRows (sym left) (rows_without stays rows was)) (λ nine was. subst (AllByRecursion IsCounted) (sym left) (all-filter IsCounted stays rows was));
      rows = left;
      others = others;
    }

on_answer : (tree at : ℕ) (uid : texts.Text) (old new : State) (sql : List ℕ) (r : Result ℕ Error)
    → ((count : ℕ) → ExecutesInside 0 sql (its_params uid) old new (Ok count) → DropsOf tree at uid old new) → ExecutesInside 0 sql (its_params uid) old new r → OnOk r (DropsOf tree at uid old new)
on_answer tree at uid old new sql (Ok count) f h = f count h
on_answer tree at uid old new sql (Err e) f h = tt

-- ---- the four tables that speak of an instance which isn't kept

pub arrivals_of_left : (old new : State) (uid : texts.Text) (r : Result ℕ Error) → IsLedger old.now → ExecutesInside 0 text.drop_arrivals_of (Text uid ∷ []) old new r → OnOk r (DropsOf 5 2 uid old new)
arrivals_of_left old new uid r has = on_answer 5 2 uid old new text.drop_arrivals_of r (λ count.
    leaves old new text.drop_arrivals_of 3 2 table.arrival_table uid count has command.drop_arrivals_of.0 command.drop_arrivals_of.1 refl (λ rows answer. answer.grouped) (λ ids. refl) has.arrivals
    (all_weaker IsQueueRow (HasUidAt 2) (λ row is. (is.at.1, is.dest)) (old.now.trees 5) (arrival_rows old.now has)) (inl (omega arith)) (inl (omega arith)) (inr refl) (inl (omega arith)))

pub rows_of_left : (old new : State) (uid : texts.Text) (r : Result ℕ Error) → IsLedger old.now → ExecutesInside 0 text.drop_rows_of (Text uid ∷ []) old new r → OnOk r (DropsOf 9 1 uid old new)
rows_of_left old new uid r has = on_answer 9 1 uid old new text.drop_rows_of r (λ count.
    leaves old new text.drop_rows_of 5 1 table.queue_table uid count has command.drop_rows_of.0 command.drop_rows_of.1 refl (λ rows answer. answer.grouped) (λ ids. refl) has.queue
    (all_weaker IsQueueRow (HasUidAt 1) (λ row is. (is.at.0, is.uid)) (old.now.trees 9) (queue_rows old.now has)) (inl (omega arith)) (inl (omega arith)) (inl (omega arith)) (inr refl))

pub print_left : (old new : State) (uid : texts.Text) (r : Result ℕ Error) → IsLedger old.now → ExecutesInside 0 text.drop_print (Text uid ∷ []) old new r → OnOk r (DropsOf 3 1 uid old new)
print_left old new uid r has = on_answer 3 1 uid old new text.drop_print r (λ count.
    leaves old new text.drop_print 2 1 table.print_table uid count has command.drop_print.0 command.drop_print.1 refl (λ rows answer. answer.grouped) (λ ids. refl) has.prints
    (all_weaker IsUidRow (HasUidAt 1) (λ row is. is) (old.now.trees 3) (print_uids old.now has)) (inl (omega arith)) (inr refl) (inl (omega arith)) (inl (omega arith)))

-- item's rows are referred to, and none of the references sets anything off either
pub item_left : (old new : State) (uid : texts.Text) (r : Result ℕ Error) → IsLedger old.now → ExecutesInside 0 text.drop_item (Text uid ∷ []) old new r → OnOk r (DropsOf 1 1 uid old new)
item_left old new uid r has = on_answer 1 1 uid old new text.drop_item r (λ count.
    leaves old new text.drop_item 1 1 table.item_table uid count has command.drop_item.0 command.drop_item.1 refl (λ rows answer. answer.grouped) (λ ids. refl) has.items
    (all_weaker IsUidRow (HasUidAt 1) (λ row is. is) (old.now.trees 1) (item_uids old.now has)) (inr refl) (inl (omega arith)) (inl (omega arith)) (inl (omega arith)))
