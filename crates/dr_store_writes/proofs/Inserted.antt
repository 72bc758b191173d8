-- What INSERT of one row of values does, to whatever table.
use Rattle.std.proofs.Common.{◌≡◌, ◌≢◌, ◌⊎◌, inl, inr, ℕ, List, [], ◌∷◌, ◌++◌, Bool, true, false, not, ◌&&◌, length, slice_get, Some, None, Ok, Err, Result, IsTrue, refl, sym, ap, subst, ◌∙◌, ◌/◌}
use Rattle.std.specs.List.{AllByRecursion}
use Rattle.sqlite.specs.Command.TheVariants.{Insert}
use Rattle.sqlite.specs.Does.{Tally, Does}
use Rattle.sqlite.specs.Edit.{Edit, edit_of, is_taken}
use Rattle.sqlite.specs.Effect.{Database, IsDatabase, value_rows}
use Rattle.sqlite.specs.Listing.{understood}
use Rattle.sqlite.specs.Order.{Row}
use Rattle.sqlite.specs.Rowids.TheVariants.{Chosen}
use Rattle.sqlite.specs.Rows.{Written}
use Rattle.sqlite.specs.Source.TheVariants.{Values}
use Rattle.sqlite.specs.State.{State, mode_of, ExecutesInside, Shows}
use Rattle.sqlite.specs.Table.{Table}
use Rattle.sqlite.specs.Term.{Term}
use Rattle.sqlite.specs.Tree.{Trees, rowid}
use Rattle.sqlite.proofs.Callers.{IsPlain, command_of, runs_as, one_step, statement_of}
use Rattle.sqlite_rules.specs.Action.{Writes, works}
use Rattle.sqlite_schema.specs.declared.schema.Keys.TheVariants.{Enforced}
use Rattle.sqlite_trees.proofs.TreeLemmas.{all-put_row}
use Rattle.sqlite_trees.specs.View.{is_int}
use Rattle.dr_store_schema.specs.Ledgers.{AreRows, IsCounted, IsLedger}
use Rattle.dr_store_schema.specs.Tables.{tables}
use Rattle.dr_store_writes.specs.Effects.{AddsRow, GoesOn, LeavesOthers}
use Rattle.dr_store_writes.proofs.Maps.{rows_put}

-- a table without AUTOINCREMENT, and without a default that reads the time
abbrev pub bare : Table → Table
bare t = record t { is_counted = false; stamps = record { places = []; terms = []; formats = [] } }

-- the rows of the values
abbrev pub sources : Row → ℕ → List Term → List Row
sources params width terms = value_rows (params ++ []) width (length terms / width) terms

-- a part of a statement that gave a value
pub went : {B E R : Type 0} {b : B} {Stops : E → Type 0} → ((stop : E) × Stops stop × (Ok b ≡ Err stop)) ⊎ R → R
went (inl stopped) = absurd (let e = stopped.2 in cc)
went (inr on) = on

pub same_value : {B E : Type 0} {a b : B} → ◌≡◌ {A = Result B E} (Ok a) (Ok b) → a ≡ b
same_value e = cc

-- the first of two tests, where it is a test that fails
pub is_free : (a b : Bool) → (not a && b) ≡ true → a ≡ false
is_free true b h = absurd cc
is_free false b h = refl

-- what a write by one edit leaves
pub record Wrote (edit : Edit) (old new : State) : Type 0 where
  pub writes : Writes tables Enforced old.now.trees edit (Ok new.now.trees)
  pub schema : new.now.schema ≡ tables
  pub sound : IsDatabase new.now
  pub shown : Shows old new new.now old.committed true

pub inserted : (old new : State) (sql : List ℕ) (params : Row) (at : ℕ) (terms : List Term) (width : ℕ) (t : Table) (count : ℕ) → old.now.schema ≡ tables
    → command_of (understood tables sql) ≡ Insert at (Values terms width) → IsPlain (understood tables sql) → slice_get tables.tables at ≡ Some (bare t)
    → ExecutesInside 0 sql params old new (Ok count) → Wrote (edit_of old.now.trees (bare t) [] Chosen 0 (sources params width terms)) old new
inserted old new sql params at terms width t count has is plain there h =
    let db = old.now.trees in
    let command = Insert at (Values terms width) in
    let w = runs_as sql params old new tables has command is plain count h.0 in
    let text = statement_of sql (understood tables sql) in
    let all = subst (λ s. Does old.step_limit (mode_of old) params (record old.now { schema = s }) text None command (Ok (w.tally, new.now))) has w.changed in
    let done = went (rw there at all) in
    let last = ap (λ (p : Tally × Database). p.1) (same_value (went (went done.2).2).2) in
    let given = went done.1 in
    let written = went (went given.2).2 in
    let counted = went written.2 in
    let trees : done.0.trees ≡ written.0 = ap (λ (it : Written). it.trees) (same_value counted.2) ∙ same_value counted.1 in
    let same : written.0 ≡ new.now.trees = sym (ap (λ (d : Database). d.trees) last ∙ trees) in
    let edit = λ (rows : List Row). edit_of db (bare t) [] Chosen 0 rows in
    record {
      writes = subst (λ (next : Trees). Writes tables Enforced db (edit (sources params width terms)) (Ok next)) same (subst (λ rows. Writes tables Enforced db (edit rows) (Ok written.0)) given.1.1 written.1);
      schema = ap (λ (d : Database). d.schema) last;
      sound = w.sound;
      shown = h.1;
    }

-- the tables but one are as they were
pub others_stay : (but : ℕ) (db next : Trees) → AllByRecursion (λ (t : Table). t.tree ≢ but → next t.tree ≡ db t.tree) tables.tables → LeavesOthers but db next
others_stay but db next h = record {
  site = λ e. h.0 (λ s. e (sym s));
  items = λ e. h.1.0 (λ s. e (sym s));
  prints = λ e. h.1.1.0 (λ s. e (sym s));
  arrivals = λ e. h.1.1.1.0 (λ s. e (sym s));
  kept = λ e. h.1.1.1.1.0 (λ s. e (sym s));
  queue = λ e. h.1.1.1.1.1.0 (λ s. e (sym s));
  journal = λ e. h.1.1.1.1.1.1.0 (λ s. e (sym s));
  targets = λ e. h.1.1.1.1.1.1.1.0 (λ s. e (sym s));
}

-- whether a table is this one
abbrev pub IsOrNot : ℕ → ℕ → Type 0
IsOrNot tree k = (tree ≢ k) ⊎ (tree ≡ k)

-- the transaction goes on over a ledger's tables after a write to one of them
pub ledger_of : (tree : ℕ) (old new : State) → IsLedger old.now → new.now.schema ≡ tables → IsDatabase new.now → Shows old new new.now old.committed true → LeavesOthers tree old.now.trees new.now.trees
    → IsOrNot tree 1 → IsOrNot tree 3 → IsOrNot tree 5 → IsOrNot tree 9 → (AreRows (old.now.trees tree) → AreRows (new.now.trees tree))
    → (tree ≡ 9 → AllByRecursion IsCounted (old.now.trees tree) → AllByRecursion IsCounted (new.now.trees tree)) → GoesOn old new
ledger_of tree old new has schema sound shown others one three five nine written counted = record {
  ledger = record {
    schema = schema;
    sound = sound;
    items = stay 1 one others.items has.items;
    prints = stay 3 three others.prints has.prints;
    arrivals = stay 5 five others.arrivals has.arrivals;
    queue = stay 9 nine others.queue has.queue;
    counted = count nine;
  };
  mode = rw shown.mode;
  committed = shown.committed_is;
  is_open = shown.is_open;
}
  where
    stay : (k : ℕ) → IsOrNot tree k → (tree ≢ k → new.now.trees k ≡ old.now.trees k) → AreRows (old.now.trees k) → AreRows (new.now.trees k)
    stay k (inl other) same was = subst AreRows (sym (same other)) was
    stay k (inr it) same was = subst (λ n. AreRows (new.now.trees n)) it (written (subst (λ n. AreRows (old.now.trees n)) (sym it) was))

    count : IsOrNot tree 9 → AllByRecursion IsCounted (new.now.trees 9)
    count (inl other) = subst (AllByRecursion IsCounted) (sym (others.queue other)) has.counted
    count (inr it) = subst (λ n. AllByRecursion IsCounted (new.now.trees n)) it (counted it (subst (λ n. AllByRecursion IsCounted (old.now.trees n)) (sym it) has.counted))

-- One row of values is one row more.
pub adds : (old new : State) (sql : List ℕ) (params : Row) (at : ℕ) (terms : List Term) (width : ℕ) (t : Table) (row : Row) (count : ℕ) → IsLedger old.now
    → command_of (understood tables sql) ≡ Insert at (Values terms width) → IsPlain (understood tables sql) → slice_get tables.tables at ≡ Some (bare t)
    → edit_of old.now.trees (bare t) [] Chosen 0 (sources params width terms) ≡ record { table = bare t; gone = []; news = row ∷ [] }
    → works tables Enforced 0 t.tree [] (row ∷ []) ≡ [] → IsTrue (is_int (rowid row)) → IsOrNot t.tree 1 → IsOrNot t.tree 3 → IsOrNot t.tree 5 → IsOrNot t.tree 9
    → (t.tree ≡ 9 → IsCounted row) → ExecutesInside 0 sql params old new (Ok count) → AddsRow t.tree row old new
adds old new sql params at terms width t row count has is plain there edit_is free int one three five nine counted h =
    let db = old.now.trees in
    let w = inserted old new sql params at terms width t count has.schema is plain there h in
    let edit : Edit = record { table = bare t; gone = []; news = row ∷ [] } in
    let it = one_step tables Enforced db new.now.trees edit free (subst (λ e. Writes tables Enforced db e (Ok new.now.trees)) edit_is w.writes) in
    let others = others_stay t.tree db new.now.trees it.tables in
    let untaken : is_taken (db t.tree) row ≡ false = is_free _ _ it.fresh in
    record {
      goes_on = ledger_of t.tree old new has w.schema w.sound w.shown others one three five nine (λ was. subst AreRows (sym it.rows) (rows_put row (db t.tree) int untaken was))
          (λ nine was. subst (AllByRecursion IsCounted) (sym it.rows) (all-put_row IsCounted row (db t.tree) (counted nine) was));
      rows = it.rows;
      free = untaken;
      others = others;
    }
