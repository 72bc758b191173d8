-- All rows leave a table: the lines of the journal, and where first arrivals go on to.
use Rattle.std.proofs.Common.{◌≡◌, ◌≢◌, inl, ℕ, ℤ, List, [], ◌∷◌, flat_map, cond, Bool, true, false, not, ◌&&◌, ◌||◌, slice_get, Some, Ok, Err, Result, OnOk, refl, sym, subst, ◌∙◌, true≢false, arith}
use Rattle.std.specs.List.{AllByRecursion}
use Rattle.sqlite.specs.declared.error.Error.{Error}
use Rattle.sqlite.specs.Command.TheVariants.{Delete}
use Rattle.sqlite.specs.Edit.{Edit}
use Rattle.sqlite.specs.Effect.{Database}
use Rattle.sqlite.specs.Listing.{understood}
use Rattle.sqlite.specs.Order.{Row, column}
use Rattle.sqlite.specs.Program.{overlay}
use Rattle.sqlite.specs.Query.{IsAnswer}
use Rattle.sqlite.specs.State.{State, ExecutesInside}
use Rattle.sqlite.specs.Table.{Table}
use Rattle.sqlite.specs.Tree.{Trees}
use Rattle.sqlite.proofs.Callers.{IsPlain, command_of, one_step}
use Rattle.sqlite_catalog.specs.Listing.{IsSound}
use Rattle.sqlite_rules.specs.Action.{works}
use Rattle.sqlite_rules.specs.Calls.{ids_of}
use Rattle.sqlite_rules.specs.Edit.{taken_by}
use Rattle.sqlite_schema.specs.declared.schema.Constraint.TheVariants.{ForeignKey, NotNull}
use Rattle.sqlite_schema.specs.declared.schema.Keys.TheVariants.{Enforced}
use Rattle.sqlite_schema.specs.Rules.{passes}
use Rattle.sqlite_sql.specs.Ops.{is_null}
use Rattle.sqlite_tied.specs.Compute.{everything}
use Rattle.dr_store_schema.specs.Ledgers.{AreRows, IsLedger}
use Rattle.dr_store_schema.specs.Statements as text
use Rattle.dr_store_schema.specs.Tables as table
use Rattle.dr_store_schema.specs.Tables.{tables, target_table}
use Rattle.dr_store_writes.specs.Effects.{DropsAll}
use Rattle.dr_store_writes.proofs.Commands as command
use Rattle.dr_store_writes.proofs.Commands.{over}
use Rattle.dr_store_writes.proofs.Drops.{all_gone, dropped_ids}
use Rattle.dr_store_writes.proofs.Inserted.{bare, ledger_of, others_stay}
use Rattle.dr_store_writes.proofs.Keys.{both}
use Rattle.dr_store_writes.proofs.Updated.{deleted, hits, matched}

-- The transaction goes on, and no row is left that had a number for a rowid, if none of them sets
-- anything off.
empties : (old new : State) (sql : List ℕ) (place : ℕ) (t : Table) (count : ℕ) → IsLedger old.now
    → command_of (understood tables sql) ≡ Delete place (record { lets = []; body = over t.tree [] command.dropped_shown }) → IsPlain (understood tables sql) → slice_get tables.tables place ≡ Some (bare t)
    → ((rows : List Row) (answer : IsAnswer (over t.tree [] command.dropped_shown) (overlay old.now.trees []) [] rows) → answer.staged ≡ flat_map (λ r. cond (hits [] [] r) (([] ∷ r ∷ []) ∷ []) []) (old.now.trees t.tree))
    → ((ids : List ℤ) → works tables Enforced 0 t.tree (taken_by old.now.trees (record { table = bare t; gone = ids; news = [] })) [] ≡ [])
    → t.tree ≢ 1 → t.tree ≢ 3 → t.tree ≢ 5 → t.tree ≢ 9 → ExecutesInside 0 sql [] old new (Ok count) → DropsAll t.tree old new
empties old new sql place t count has is plain there grouped none one three five nine h =
    let db = old.now.trees in
    let d = deleted old new sql [] place t.tree [] command.dropped_shown t count has.schema is plain there h in
    let staged = grouped d.0 d.1 ∙ matched (hits [] []) (λ r. [] ∷ r ∷ []) (db t.tree) in
    let ids = ids_of d.0 in
    let edit : Edit = record { table = bare t; gone = ids; news = [] } in
    let it = one_step tables Enforced db new.now.trees edit (none ids) d.2.writes in
    let others = others_stay t.tree db new.now.trees it.tables in
    record {
      goes_on = ledger_of t.tree old new has d.2.schema d.2.sound d.2.shown others (inl one) (inl three) (inl five) (inl nine)
          (λ was. subst AreRows (sym (it.rows ∙ all_gone (db t.tree) was.ints ids (dropped_ids t.tree [] db [] d.0 d.1 staged))) (record { apart = tt; ints = tt })) (λ e. absurd (nine e));
      rows = λ ints. it.rows ∙ all_gone (db t.tree) ints ids (dropped_ids t.tree [] db [] d.0 d.1 staged);
      others = others;
    }

on_answer : (tree : ℕ) (old new : State) (sql : List ℕ) (r : Result ℕ Error) → ((count : ℕ) → ExecutesInside 0 sql [] old new (Ok count) → DropsAll tree old new) → ExecutesInside 0 sql [] old new r → OnOk r (DropsAll tree old new)
on_answer tree old new sql (Ok count) f h = f count h
on_answer tree old new sql (Err e) f h = tt

pub targets_left : (old new : State) (r : Result ℕ Error) → IsLedger old.now → ExecutesInside 0 text.drop_targets [] old new r → OnOk r (DropsAll 12 old new)
targets_left old new r has = on_answer 12 old new text.drop_targets r (λ count.
    empties old new text.drop_targets 7 table.target_table count has command.drop_targets.0 command.drop_targets.1 refl (λ rows answer. answer.grouped) (λ ids. refl)
    (λ e. omega (arith, e)) (λ e. omega (arith, e)) (λ e. omega (arith, e)) (λ e. omega (arith, e)))

-- the journal's rows are referred to, and none of the references sets anything off
pub lines_left : (old new : State) (r : Result ℕ Error) → IsLedger old.now → ExecutesInside 0 text.drop_lines [] old new r → OnOk r (DropsAll 11 old new)
lines_left old new r has = on_answer 11 old new text.drop_lines r (λ count.
    empties old new text.drop_lines 6 table.journal_table count has command.drop_lines.0 command.drop_lines.1 refl (λ rows answer. answer.grouped) (λ ids. refl)
    (λ e. omega (arith, e)) (λ e. omega (arith, e)) (λ e. omega (arith, e)) (λ e. omega (arith, e)))

-- ---- where no line is, none goes anywhere, since each row of target refers to one

no_row : (db : Trees) (row : Row) → db 11 ≡ [] → passes ForeignKey tables db target_table row ≡ true → passes NotNull tables db target_table row ≡ true → ⊥
unfolding everything
no_row db row none refers there =
    let some = both (not (is_null (column row 1))) _ there in
    let it : (((is_null (column row 1) || false) || false) && true) ≡ true = rw none at refers in
    go (is_null (column row 1)) some.0 it
  where
    go : (b : Bool) → not b ≡ true → (((b || false) || false) && true) ≡ true → ⊥
    go true some it = true≢false (sym some)
    go false some it = true≢false (sym it)

pub no_target_left : (db : Database) → IsLedger db → db.trees 11 ≡ [] → db.trees 12 ≡ []
no_target_left db is none =
    let obeys = (subst (λ s. IsSound s db.trees) is.schema is.sound).obeys in
    empty (db.trees 12) (obeys.rules ForeignKey).1.1.1.1.1.1.1.0 (obeys.rules NotNull).1.1.1.1.1.1.1.0
  where
    empty : (rows : List Row) → AllByRecursion (λ row. passes ForeignKey tables db.trees target_table row ≡ true) rows → AllByRecursion (λ row. passes NotNull tables db.trees target_table row ≡ true) rows → rows ≡ []
    empty [] refers there = refl
    empty (row ∷ rows) refers there = absurd (no_row db.trees row none refers.0 there.0)
