-- What a file from before keeps where it is brought over.
use Rattle.std.specs.Prelude.{◌≡◌, ◌∷◌, ◌++◌, ℕ, false, List, [], Some, Ok, codes}
use Rattle.sqlite.specs.Effect.{Database, Reads}
use Rattle.sqlite.specs.Given.{IsPlain}
use Rattle.sqlite.specs.Listing.{reads_listing, understood}
use Rattle.sqlite.specs.Order.{Row, column}
use Rattle.sqlite.specs.Schema.{Schema}
use Rattle.sqlite.specs.declared.types.Value.TheVariants.{Blob, Text as TextCell}
use Rattle.sqlite_resolve.specs.declared.compiled.Compiled.{Compiled}
use Rattle.sqlite_schema.specs.declared.command.Command.TheVariants.{CreateIndex}
use Rattle.dr_base.specs.Texts.{Text}
use Rattle.dr_site.specs.Parts.{Part}
use Rattle.dr_store_schema.specs.Statements as text
use Rattle.dr_store_reads.specs.Queries.{IsOwnerAsShown}
use Rattle.dr_store_calls.specs.Owners.{IsMark, IsPlanWith}
use Rattle.dr_store_open.specs.declared.sheets.Sheets.{Sheets}

-- the journal by the columns that it had, which say of each line what call it was
abbrev pub all_calls : List ℕ
all_calls = codes "SELECT n, kind, caller, uid, dest, outcome, moment FROM journal ORDER BY n"

-- over these tables the text is one of SQL, which writes nothing and doesn't read the list of
-- tables
pub record IsQuery (schema : Schema) (sql : List ℕ) : Type 0 where
  pub plain : IsPlain (understood schema sql)
  pub listing : reads_listing schema sql ≡ false

-- over whatever tables the text is understood, it is such a query
abbrev pub OnlyAsks : List ℕ → Type 0
OnlyAsks sql =
    (schema : Schema) (it : Compiled) → understood schema sql ≡ Ok it → IsQuery schema sql

-- over whatever tables the text is understood, it makes an index of one of them
abbrev pub OnlyIndexes : List ℕ → Type 0
OnlyIndexes sql =
    (schema : Schema) (it : Compiled)
    → understood schema sql ≡ Ok it
    → (at : ℕ) × (it.command ≡ CreateIndex at)

-- the query answers these rows of that database
pub record IsAnswer (sql : List ℕ) (db : Database) (rows : List Row) : Type 0 where
  pub query : Compiled
  pub is : understood db.schema sql ≡ Ok query
  pub reads : Reads query.command db [] rows

-- it answers the same of both
abbrev pub AnswersTheSame : Database → Database → List ℕ → Type 0
AnswersTheSame old new sql = (rows : List Row) × IsAnswer sql old rows × IsAnswer sql new rows

-- Whose file it is, its instances, who brought them, which of them it keeps, its queue and its
-- journal by the columns that it had: all of it is asked for before and after by the same queries,
-- in the order of the keys, and the answers are the same.
pub record KeepsRows (old new : Database) : Type 0 where
  pub site : AnswersTheSame old new text.the_site
  pub items : AnswersTheSame old new text.all_items
  pub arrivals : AnswersTheSame old new text.all_arrivals
  pub kept : AnswersTheSame old new text.all_kept
  pub rows : AnswersTheSame old new text.all_rows
  pub lines : AnswersTheSame old new all_calls

-- There is no instance, no arrival, no kept UID, no row of the queue and no line: the queries that
-- ask for them answer nothing. None of them asks for `print` and `target`.
pub record HasNoRows (db : Database) : Type 0 where
  pub items : IsAnswer text.all_items db []
  pub arrivals : IsAnswer text.all_arrivals db []
  pub kept : IsAnswer text.all_kept db []
  pub rows : IsAnswer text.all_rows db []
  pub lines : IsAnswer all_calls db []

-- The tables of a ledger that was made just now, for the node and with that for its plan: the query
-- of `site` answers one row, which says so, and the queries above answer none.
pub record IsMadeFor (node : Text) (cell : List ℕ) (db : Database) : Type 0 where
  pub rows : List Row
  pub site : IsAnswer text.the_site db rows
  pub owner : IsOwnerAsShown rows (Some (record { node = node; plan = cell }))
  pub others : HasNoRows db

-- for the site, with this mark, and no seal
abbrev pub IsMadeWith : List ℕ → Part → Database → Type 0
IsMadeWith mark part db =
    (cell : List ℕ) × IsPlanWith mark [] part.digest cell × IsMadeFor part.name cell db

-- with some mark
abbrev pub IsMadeBy : Part → Database → Type 0
IsMadeBy part db = (mark : List ℕ) × IsMadeWith mark part db

-- What SQL shows of the tables of a new ledger: one row says the site's node, and for its plan the
-- SHA-256 with a mark right behind it, or nothing. Nothing else is there that these texts ask for.
pub record ShowsNewLedger (part : Part) (db : Database) : Type 0 where
  pub row : Row
  pub mark : List ℕ
  pub marked : IsMark mark
  pub site : IsAnswer (codes "SELECT id, node, plan FROM site") db (row ∷ [])
  pub node : column row 1 ≡ TextCell part.name
  pub plan : column row 2 ≡ Blob (part.digest ++ mark)
  pub items : IsAnswer text.all_items db []
  pub arrivals : IsAnswer text.all_arrivals db []
  pub kept : IsAnswer text.all_kept db []
  pub rows : IsAnswer text.all_rows db []
  pub lines : IsAnswer all_calls db []

-- the sheets have what it has
pub record AreSheetsOf (db : Database) (sheets : Sheets) : Type 0 where
  pub site : IsAnswer text.the_site db sheets.site.items
  pub items : IsAnswer text.all_items db sheets.items.items
  pub arrivals : IsAnswer text.all_arrivals db sheets.arrivals.items
  pub kept : IsAnswer text.all_kept db sheets.kept.items
  pub rows : IsAnswer text.all_rows db sheets.rows.items
  pub lines : IsAnswer all_calls db sheets.lines.items
