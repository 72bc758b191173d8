-- What is left of a file, by its kind.
use Rattle.std.proofs.Common.{◌≡◌, ◌∙◌, ◌++◌, List, inl, inr, length, sym, ap, subst, arith}
use Rattle.std.proofs.lemmas.List.{append-nil}
use Rattle.sqlite.specs.Effect.{Database}
use Rattle.sqlite.specs.declared.types.Value.TheVariants.{Blob}
use Rattle.dr_store_schema.specs.Statements as text
use Rattle.sqlite.specs.Schema.{Schema}
use Rattle.sqlite.specs.Table.{Table}
use Rattle.sqlite.specs.State.{State}
use Rattle.sqlite.specs.Tree.{Trees}
use Rattle.dr_site.specs.Parts.{Part}
use Rattle.dr_store_schema.specs.Tables.{tables}
use Rattle.dr_store_audit.specs.Older.{IsOlder}
use Rattle.dr_store_audit.proofs.Less.{no_older_is_new}
use Rattle.dr_store_open.specs.Opening.{IsBlank, LeavesOldOr, MayMake}
use Rattle.dr_store_open.specs.Renewing.{IsAnswer, IsMadeBy, KeepsRows, ShowsNewLedger}
use Rattle.dr_store_open.proofs.Blank.{blank_no_older}

-- a ledger's tables are some
pub tables_not_blank : (schema : Schema) → schema ≡ tables → IsBlank schema → ⊥
tables_not_blank schema is blank =
    let n : 8 ≡ 0 = ap (λ (ts : List Table). length ts) (sym (ap (λ (s : Schema). s.tables) is) ∙ blank.tables) in omega (arith, n)

pub nothing_made : (part : Part) (old new : State) → LeavesOldOr (MayMake part old.now) old new
    → (IsBlank old.now.schema → ⊥) → (IsOlder old.now.schema → ⊥)
    → (db : Trees) → new.may_leave db → old.may_leave db
nothing_made part old new left blank older db h = elim (left db h) [
  | inl before ↦ before
  | inr made ↦ elim made.3 [ inl new_one ↦ absurd (blank new_one.0) | inr renewed ↦ absurd (older renewed.0) ]
]

pub kept_or_before : (part : Part) (old new : State) → LeavesOldOr (MayMake part old.now) old new → IsOlder old.now.schema
    → LeavesOldOr (KeepsRows old.now) old new
kept_or_before part old new left older db h = elim (left db h) [
  | inl before ↦ inl before
  | inr made ↦ elim made.3 [
    | inl new_one ↦ absurd (blank_no_older old.now.schema new_one.0.tables older)
    | inr renewed ↦ inr (made.0, made.1, made.2, renewed.1)
  ]
]

-- what a new ledger shows
shows_new : (part : Part) (db : Database) → IsMadeBy part db → ShowsNewLedger part db
shows_new part db (mark, (cell, plan, made)) = record {
  row = made.owner.0;
  mark = mark;
  marked = plan.marked;
  site = subst (IsAnswer text.the_site db) made.owner.1 made.site;
  node = made.owner.2.node;
  plan = made.owner.2.plan ∙ ap Blob (plan.is ∙ ap (λ x. part.digest ++ x) (append-nil mark));
  items = made.others.items;
  arrivals = made.others.arrivals;
  kept = made.others.kept;
  rows = made.others.rows;
  lines = made.others.lines;
}

pub empty_or_before : (part : Part) (old new : State) → LeavesOldOr (MayMake part old.now) old new → IsBlank old.now.schema
    → LeavesOldOr (ShowsNewLedger part) old new
empty_or_before part old new left blank db h = elim (left db h) [
  | inl before ↦ inl before
  | inr made ↦ elim made.3 [
    | inl new_one ↦ inr (made.0, made.1, made.2, shows_new part made.0 new_one.1)
    | inr renewed ↦ absurd (blank_no_older old.now.schema blank.tables renewed.0)
  ]
]

pub ledger_is_neither : (schema : Schema) → schema ≡ tables → (IsBlank schema → ⊥) × (IsOlder schema → ⊥)
ledger_is_neither schema is = (tables_not_blank schema is, λ older. no_older_is_new schema older is)
