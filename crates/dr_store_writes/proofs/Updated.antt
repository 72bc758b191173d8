-- What UPDATE and DELETE do to whatever table: the query finds rows, and these are replaced, or leave.
use Rattle.std.proofs.Common.{◌≡◌, ℕ, ℤ, List, [], ◌∷◌, ◌++◌, map, filter, flat_map, Bool, true, false, not, cond, slice_get, Some, None, Ok, IsTrue, refl, sym, ap, subst, ◌∙◌, arith}
use Rattle.std.specs.List.{AllByRecursion, list_all}
use Rattle.std.proofs.lemmas.List.Sorted.{length_permutation}
use Rattle.std.specs.List.Sorted.{IsPermutation}
use Rattle.sqlite.specs.declared.types.Value.TheVariants.{Null}
use Rattle.sqlite.specs.Command.TheVariants.{Update, Delete}
use Rattle.sqlite.specs.Does.{Tally, Does}
use Rattle.sqlite_rules.specs.Edit.{Edit, edit_of, is_taken, taken_by, without_all}
use Rattle.sqlite.specs.Effect.{Database}
use Rattle.sqlite.specs.Listing.{understood}
use Rattle.sqlite.specs.Order.{Row}
use Rattle.sqlite.specs.Program.{overlay}
use Rattle.sqlite.specs.Query.{Query, IsAnswer, output, page, Output}
use Rattle.sqlite.specs.Rowids.TheVariants.{Given}
use Rattle.sqlite.specs.Rows.{Written}
use Rattle.sqlite.specs.State.{State, mode_of, ExecutesInside}
use Rattle.sqlite.specs.Table.{Table}
use Rattle.sqlite.specs.Term.{Term, holds}
use Rattle.sqlite.specs.Tree.{Trees, rowid, put_row, without_rowid, has_rowid}
use Rattle.sqlite.proofs.Callers.{IsPlain, command_of, runs_as, one_step, one_permutation, statement_of}
use Rattle.sqlite_rules.specs.Action.{Writes, works}
use Rattle.sqlite_rules.specs.Calls.{ids_of}
use Rattle.sqlite_schema.specs.declared.schema.Keys.TheVariants.{Enforced}
use Rattle.sqlite_trees.proofs.ListLemmas.{all-filter}
use Rattle.sqlite_trees.proofs.TreeLemmas.{all-put_row}
use Rattle.sqlite_trees.specs.View.{is_int}
use Rattle.dr_store_schema.specs.Ledgers.{AreRows, IsCounted, IsLedger}
use Rattle.dr_store_schema.specs.Tables.{tables, arrival_table, queue_table}
use Rattle.dr_store_writes.specs.Effects.{GoesOn, LeavesOthers}
use Rattle.dr_store_writes.proofs.Commands.{over}
use Rattle.dr_store_writes.proofs.Inserted.{Wrote, IsOrNot, bare, went, same_value, is_free, others_stay, ledger_of}
use Rattle.dr_store_writes.proofs.Maps.{rows_put, rows_without}

pub updated : (old new : State) (sql : List ℕ) (params : Row) (at : ℕ) (tree : ℕ) (conditions shown : List Term) (t : Table) (count : ℕ) → old.now.schema ≡ tables
    → command_of (understood tables sql) ≡ Update at (record { lets = []; body = over tree conditions shown }) → IsPlain (understood tables sql) → slice_get tables.tables at ≡ Some (bare t)
    → ExecutesInside 0 sql params old new (Ok count)
    → (rows : List Row) × IsAnswer (over tree conditions shown) (overlay old.now.trees []) params rows × Wrote (edit_of old.now.trees (bare t) (ids_of rows) Given 1 rows) old new
updated old new sql params at tree conditions shown t count has is plain there h =
    let db = old.now.trees in
    let command = Update at (record { lets = []; body = over tree conditions shown }) in
    let w = runs_as sql params old new tables has command is plain count h.0 in
    let text = statement_of sql (understood tables sql) in
    let all = subst (λ s. Does old.step_limit (mode_of old) params (record old.now { schema = s }) text None command (Ok (w.tally, new.now))) has w.changed in
    let done = went (rw there at all) in
    let last = ap (λ (p : Tally × Database). p.1) (same_value (went (went done.2).2).2) in
    let given = went done.1 in
    let written = went given.2 in
    let trees : done.0.trees ≡ written.0 = ap (λ (it : Written). it.trees) (same_value written.2) in
    let same : written.0 ≡ new.now.trees = sym (ap (λ (d : Database). d.trees) last ∙ trees) in (
      given.0,
      given.1.answer Null,
      record {
        writes = subst (λ (next : Trees). Writes tables Enforced db (edit_of db (bare t) (ids_of given.0) Given 1 given.0) (Ok next)) same written.1;
        schema = ap (λ (d : Database). d.schema) last;
        sound = w.sound;
        shown = h.1;
      },
    )

pub deleted : (old new : State) (sql : List ℕ) (params : Row) (at : ℕ) (tree : ℕ) (conditions shown : List Term) (t : Table) (count : ℕ) → old.now.schema ≡ tables
    → command_of (understood tables sql) ≡ Delete at (record { lets = []; body = over tree conditions shown }) → IsPlain (understood tables sql) → slice_get tables.tables at ≡ Some (bare t)
    → ExecutesInside 0 sql params old new (Ok count)
    → (rows : List Row) × IsAnswer (over tree conditions shown) (overlay old.now.trees []) params rows × Wrote (edit_of old.now.trees (bare t) (ids_of rows) Given 0 []) old new
deleted old new sql params at tree conditions shown t count has is plain there h =
    let db = old.now.trees in
    let command = Delete at (record { lets = []; body = over tree conditions shown }) in
    let w = runs_as sql params old new tables has command is plain count h.0 in
    let text = statement_of sql (understood tables sql) in
    let all = subst (λ s. Does old.step_limit (mode_of old) params (record old.now { schema = s }) text None command (Ok (w.tally, new.now))) has w.changed in
    let done = went (rw there at all) in
    let last = ap (λ (p : Tally × Database). p.1) (same_value (went (went done.2).2).2) in
    let given = went done.1 in
    let written = went given.2 in
    let trees : done.0.trees ≡ written.0 = ap (λ (it : Written). it.trees) (same_value written.2) in
    let same : written.0 ≡ new.now.trees = sym (ap (λ (d : Database). d.trees) last ∙ trees) in (
      given.0,
      given.1.answer Null,
      record {
        writes = subst (λ (next : Trees). Writes tables Enforced db (edit_of db (bare t) (ids_of given.0) Given 0 []) (Ok next)) same written.1;
        schema = ap (λ (d : Database). d.schema) last;
        sound = w.sound;
        shown = h.1;
      },
    )

pub matched : {X Y : Type 0} (hit : X → Bool) (f : X → Y) (xs : List X) → flat_map (λ x. cond (hit x) (f x ∷ []) []) xs ≡ map f (filter hit xs)
matched hit f [] = refl
matched hit f (x ∷ xs) = go (hit x) refl (matched hit f xs)
  where
    go : (b : Bool) → hit x ≡ b → flat_map (λ y. cond (hit y) (f y ∷ []) []) xs ≡ map f (filter hit xs)
        → (cond b (f x ∷ []) [] ++ flat_map (λ y. cond (hit y) (f y ∷ []) []) xs) ≡ map f (cond b (x ∷ filter hit xs) (filter hit xs))
    go true is later = ap (λ ys. f x ∷ ys) later
    go false is later = later

-- whether the conditions hold of a row
abbrev pub hits : List Term → Row → Row → Bool
hits conditions params row = list_all (holds (params ∷ row ∷ [])) conditions

nothing : {X : Type 0} (ys : List X) → IsPermutation [] ys → ys ≡ []
nothing [] h = refl
nothing (y ∷ ys) h = absurd (omega (arith, length_permutation [] (y ∷ ys) h))

-- the answer of a query that one row meets, and of one that none meets
module _ (tree : ℕ) (conditions shown : List Term) (db : Trees) (params : Row) (rows : List Row) (answer : IsAnswer (over tree conditions shown) (overlay db []) params rows)
    (grouped : answer.staged ≡ flat_map (λ r. cond (hits conditions params r) ((params ∷ r ∷ []) ∷ []) []) (db tree)) where
  abbrev q : Query
  q = over tree conditions shown

  pub found_one : (row out : Row) → filter (hits conditions params) (db tree) ≡ row ∷ [] → output q (params ∷ row ∷ []) ≡ ([], out) → rows ≡ out ∷ []
  found_one row out one is =
      let shown_row : Output = ([], out) in
      let staged : answer.staged ≡ (params ∷ row ∷ []) ∷ [] = grouped ∙ matched (hits conditions params) (λ r. params ∷ r ∷ []) (db tree) ∙ ap (map (λ r. params ∷ r ∷ [])) one in
      let kept : answer.kept ≡ shown_row ∷ [] = answer.distinct ∙ ap (map (output q)) staged ∙ ap (λ o. o ∷ []) is in
      let ordered = one_permutation shown_row answer.ordered (subst (λ l. IsPermutation l answer.ordered) kept answer.same) in
      answer.shown ∙ ap (λ xs. page q params (map (λ (p : Output). p.1) xs)) ordered

  pub found_none : filter (hits conditions params) (db tree) ≡ [] → rows ≡ []
  found_none none =
      let staged : answer.staged ≡ [] = grouped ∙ matched (hits conditions params) (λ r. params ∷ r ∷ []) (db tree) ∙ ap (map (λ r. params ∷ r ∷ [])) none in
      let kept : answer.kept ≡ [] = answer.distinct ∙ ap (map (output q)) staged in
      let ordered : answer.ordered ≡ [] = nothing answer.ordered (subst (λ l. IsPermutation l answer.ordered) kept answer.same) in
      answer.shown ∙ ap (λ xs. page q params (map (λ (p : Output). p.1) xs)) ordered

-- a row of a table is replaced, under its rowid
pub record Replaced (tree : ℕ) (id : ℤ) (row : Row) (old new : State) : Type 0 where
  pub goes_on : GoesOn old new
  pub rows : new.now.trees tree ≡ put_row row (without_rowid id (old.now.trees tree))
  pub free : is_taken (without_rowid id (old.now.trees tree)) row ≡ false
  pub others : LeavesOthers tree old.now.trees new.now.trees

pub replaced : (old new : State) (t : Table) (id : ℤ) (row : Row) → IsLedger old.now → works tables Enforced 0 t.tree (taken_by old.now.trees (record { table = bare t; gone = id ∷ []; news = row ∷ [] })) (row ∷ []) ≡ [] → IsTrue (is_int (rowid row))
    → IsOrNot t.tree 1 → IsOrNot t.tree 3 → IsOrNot t.tree 5 → IsOrNot t.tree 9 → (t.tree ≡ 9 → IsCounted row) → Wrote (record { table = bare t; gone = id ∷ []; news = row ∷ [] }) old new
    → Replaced t.tree id row old new
replaced old new t id row has free int one three five nine counted w =
    let db = old.now.trees in
    let edit : Edit = record { table = bare t; gone = id ∷ []; news = row ∷ [] } in
    let it = one_step tables Enforced db new.now.trees edit free w.writes in
    let others = others_stay t.tree db new.now.trees it.tables in
    let untaken : is_taken (without_rowid id (db t.tree)) row ≡ false = is_free _ _ it.fresh in
    record {
      goes_on = ledger_of t.tree old new has w.schema w.sound w.shown others one three five nine
          (λ was. subst AreRows (sym it.rows) (rows_put row (without_rowid id (db t.tree)) int untaken (rows_without (λ r. not (has_rowid id r)) (db t.tree) was)))
          (λ nine was. subst (AllByRecursion IsCounted) (sym it.rows) (all-put_row IsCounted row (without_rowid id (db t.tree)) (counted nine) (all-filter IsCounted (λ r. not (has_rowid id r)) (db t.tree) was)));
      rows = it.rows;
      free = untaken;
      others = others;
    }

-- ---- DELETE: nothing refers to arrival, nor to queue, so that rows which leave set nothing off

pub arrivals_dropped : (old new : State) (ids : List ℤ) → Wrote (record { table = bare arrival_table; gone = ids; news = [] }) old new
    → (new.now.trees 5 ≡ without_all (old.now.trees 5) ids) × LeavesOthers 5 old.now.trees new.now.trees
arrivals_dropped old new ids w =
    let it = one_step tables Enforced old.now.trees new.now.trees (record { table = bare arrival_table; gone = ids; news = [] }) refl w.writes in (it.rows, others_stay 5 old.now.trees new.now.trees it.tables)

pub rows_dropped : (old new : State) (ids : List ℤ) → Wrote (record { table = bare queue_table; gone = ids; news = [] }) old new
    → (new.now.trees 9 ≡ without_all (old.now.trees 9) ids) × LeavesOthers 9 old.now.trees new.now.trees
rows_dropped old new ids w =
    let it = one_step tables Enforced old.now.trees new.now.trees (record { table = bare queue_table; gone = ids; news = [] }) refl w.writes in (it.rows, others_stay 9 old.now.trees new.now.trees it.tables)
