-- A ledger's tables without a row.
use Rattle.std.proofs.Common.{◌≡◌, ℕ, List, [], Some, Result, Ok, Err, OnOk, sym, subst}
use Rattle.sqlite.specs.Effect.{Database}
use Rattle.dr_base.specs.Texts.{Text}
use Rattle.dr_store_schema.specs.Statements as text
use Rattle.dr_store_reads.specs.Queries.{IsOwnerAsShown}
use Rattle.dr_store_open.specs.declared.sheets.Sheets.{Sheets}
use Rattle.dr_store_open.specs.Renewing.{HasNoRows, IsAnswer, IsMadeFor, AreSheetsOf, all_calls}

-- what is told of them, where none of it has a row
pub emptied : (db : Database) (sheets : Sheets) → AreSheetsOf db sheets
    → (sheets.items.items ≡ []) × (sheets.arrivals.items ≡ []) × (sheets.kept.items ≡ [])
    × (sheets.rows.items ≡ []) × (sheets.lines.items ≡ []) → HasNoRows db
emptied db sheets told none = record {
  items = subst (IsAnswer text.all_items db) none.0 told.items;
  arrivals = subst (IsAnswer text.all_arrivals db) none.1 told.arrivals;
  kept = subst (IsAnswer text.all_kept db) none.2 told.kept;
  rows = subst (IsAnswer text.all_rows db) none.3 told.rows;
  lines = subst (IsAnswer all_calls db) none.4 told.lines;
}

-- and where site shows an owner
pub made_for : (db : Database) (sheets : Sheets) (node : Text) (cell : List ℕ) → AreSheetsOf db sheets
    → (sheets.items.items ≡ []) × (sheets.arrivals.items ≡ []) × (sheets.kept.items ≡ [])
    × (sheets.rows.items ≡ []) × (sheets.lines.items ≡ [])
    → IsOwnerAsShown sheets.site.items (Some (record { node = node; plan = cell })) → IsMadeFor node cell db
made_for db sheets node cell told none owner = record {
  rows = sheets.site.items;
  site = told.site;
  owner = owner;
  others = emptied db sheets told none;
}

-- what was made, behind the look at it
pub made_still : {A E : Type 0} (r : Result A E) (old new : Database) (node : Text) (cell : List ℕ) → OnOk r (IsMadeFor node cell old × (new ≡ old)) → OnOk r (IsMadeFor node cell new)
made_still (Ok x) old new node cell made = subst (IsMadeFor node cell) (sym made.1) made.0
made_still (Err e) old new node cell made = tt
