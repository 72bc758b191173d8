-- What queries answer, and what they leave.
use Rattle.std.specs.Prelude.{◌≡◌, ◌≢◌, ◌≤◌, ◌<◌, ◌^◌, ◌⊎◌, ℕ, pos, true, false, not, ◌==◌, IsTrue}
use Rattle.std.specs.Prelude.{Bool, List, length}
use Rattle.std.specs.Prelude.{[], ◌∷◌, Option, Some, None, option_map, unwrap_or, Result, OnOk}
use Rattle.std.specs.FinMap as map
use Rattle.sqlite.specs.declared.error.Error.{Error}
use Rattle.sqlite.specs.declared.error.Error.TheVariants.{SqliteFailure}
use Rattle.sqlite.specs.declared.error.ErrorCode.TheVariants.{OutOfMemory}
use Rattle.sqlite.specs.declared.types.Value.TheVariants.{Blob, Int, Text as TextCell}
use Rattle.sqlite.specs.declared.types.Value.{Value}
use Rattle.sqlite.specs.Effect.{Database}
use Rattle.sqlite.specs.Order.{Row, column}
use Rattle.sqlite.specs.State.{State, HasCleanDisk, Shown}
use Rattle.sqlite.specs.Tree.{Trees}
use Rattle.sqlite_trees.specs.View.{doubt}
use Rattle.dr_base.specs.Texts.{Text}
use Rattle.dr_route.specs.declared.key.Key.{Key}
use Rattle.dr_ledger.specs.declared.content.Job.{Job}
use Rattle.dr_ledger.specs.declared.fault.LedgerFault.{LedgerFault}
use Rattle.dr_ledger.specs.declared.item.Progress.{Progress}
use Rattle.dr_ledger.specs.Books.{is_queued}
use Rattle.dr_ledger.specs.Replies.{IsDue, IsNoLater, Reads}
use Rattle.dr_store_schema.specs.Books.{bodies_of, book_of, contents_in, instance_by, is_whole}
use Rattle.dr_store_schema.specs.Books.{items_of, prints_of, rows_of, wholes_in}
use Rattle.dr_store_schema.specs.Cells.{bytes_in, number_in, progress_in, syntax_marked, text_in}
use Rattle.dr_store_schema.specs.Tables.{tables}
use Rattle.dr_store_writes.specs.Effects.{IsSiteOf}
use Rattle.dr_store_reads.specs.declared.finding.Owner.{Owner}
use Rattle.dr_store_reads.specs.declared.finding.Print.{Print}
use Rattle.dr_store_reads.specs.declared.finding.Stored.{Stored}

-- the database failed since memory was wanting
abbrev pub IsWantOfMemory : Error → Type 0
IsWantOfMemory (SqliteFailure OutOfMemory) = Unit {0}
IsWantOfMemory error = ⊥

-- the tables are those of a ledger
abbrev pub HasTables : Database → Type 0
HasTables db = db.schema ≡ tables

-- the last commit stands, and nothing else is begun, or all of it was undone
pub record Stays (old new : State) : Type 0 where
  pub committed : new.committed ≡ old.committed
  pub now : (new.now ≡ old.now) ⊎ (new.now ≡ old.committed)

-- What a query does. Of a database that is as it asks it shows this; then the store is open, and
-- all is as it was. Whatever it answers, nothing is committed, and a crash leaves only what it
-- could leave before.
pub record Asked {A : Type 0} (Asks : Database → Type 0) (result : Result A LedgerFault)
    (old new : State) (Shows : A → Type 0) : Type 0 where
  pub shown : HasCleanDisk new → Asks old.now → Reads result Shows
  pub same : HasCleanDisk new → Asks old.now
      → OnOk result (IsTrue new.is_open × (new.now ≡ old.now))
  pub stays : HasCleanDisk new → IsTrue new.is_open → Asks old.now → Stays old new
  pub leaves : HasCleanDisk new → Asks old.now → (db : Trees) → new.may_leave db → old.may_leave db
  pub was_open : HasCleanDisk new → IsTrue new.is_open → IsTrue old.is_open
  pub clean : doubt old.is_clean ≤ doubt new.is_clean
  pub idle : old.in_transaction ≡ false → new.in_transaction ≡ false

-- ---- one instance

-- the key of the instance of that uid, or that there is none
abbrev pub IsKeyOf : Text → Trees → Option Key → Type 0
IsKeyOf uid db key = map.get (items_of db) uid ≡ option_map (instance_by (prints_of db) uid) key

-- its data set's length and SHA-256, and whether the data set is there; or that there is no print
-- of that uid
abbrev pub IsPrintOf : Text → Trees → Option Print → Type 0
IsPrintOf uid db None =
    (map.get (prints_of db) uid ≡ None) × (map.get (wholes_in (db 3)) uid ≡ None)
IsPrintOf uid db (Some print) =
    (map.get (prints_of db) uid ≡ Some (print.size, print.digest))
    × (is_whole (map.get (wholes_in (db 3)) uid) ≡ print.whole)

-- what is known of the instance of that uid, and whether its data set is there; or that there is no
-- such instance, and so no data set of it
pub record IsStored (uid : Text) (db : Trees) (found : Option Stored) : Type 0 where
  pub item : map.get (items_of db) uid ≡ option_map (λ (s : Stored). s.instance) found
  pub whole : map.contains_key (bodies_of db) uid
      ≡ unwrap_or (option_map (λ (s : Stored). s.whole) found) false

-- The instance of that uid with what stands in its row for its data set, which is nothing where it
-- was let go; or that there is none.
abbrev pub IsJobOf : Text → Trees → Option Job → Type 0
IsJobOf uid db None = map.get (items_of db) uid ≡ None
IsJobOf uid db (Some job) =
    (job.uid ≡ uid)
    × (map.get (items_of db) uid ≡ Some (instance_by (prints_of db) uid job.key))
    × (map.get (contents_in (db 1)) uid ≡ Some job.body)

-- ---- rows of an instance, and of a destination

-- the instance has an open row, which waits or is held, to another destination than this one
abbrev pub IsOpenElsewhere : Trees → Text → Text → Type 0
IsOpenElsewhere db uid dest =
    (other : Text) × (row : Progress) × (other ≢ dest)
    × (map.get (rows_of db) (uid, other) ≡ Some row)
    × (is_queued row ≡ true)

-- the instance has an open row, to whatever destination
abbrev pub HasOpen : Trees → Text → Type 0
HasOpen db uid =
    (dest : Text) × (row : Progress)
    × (map.get (rows_of db) (uid, dest) ≡ Some row)
    × (is_queued row ≡ true)

-- The uid of the first row for the destination, by (due, uid), that waits and is due; or that no
-- row is due.
abbrev pub IsFirstDue : Trees → Text → ℕ → Option Text → Type 0
IsFirstDue db dest now None = (uid : Text) (due : ℕ) → IsDue (book_of db) dest now uid due → ⊥
IsFirstDue db dest now (Some uid) =
    (due : ℕ)
    × IsDue (book_of db) dest now uid due
    × ((other : Text) (moment : ℕ)
    → IsDue (book_of db) dest now other moment
    → IsNoLater (due, uid) (moment, other))

-- ---- whose ledger it is

-- whose ledger it is, or that site is another table than that of one owner
abbrev pub IsOwnerOf : Trees → Option Owner → Type 0
IsOwnerOf db None = (node : Text) (plan : List ℕ) → IsSiteOf node plan db → ⊥
IsOwnerOf db (Some owner) = IsSiteOf owner.node owner.plan db

-- ---- rows as queries show them

-- the query's answer has a row, or it has none
abbrev pub IsAnyShown : Text → Row → State → State → Bool → Type 0
IsAnyShown sql params old new any =
    (rows : List Row) × Shown sql params old new rows × (any ≡ not (length rows == 0))

-- what the first row says
abbrev pub first_of : {A : Type 0} → (Row → A) → List Row → Option A
first_of f [] = None
first_of f (row ∷ rows) = Some (f row)

abbrev pub shown_key : Row → Key
shown_key row = record {
  class = text_in (column row 0);
  syntax = syntax_marked (text_in (column row 1));
  modality = bytes_in (column row 2);
  station = bytes_in (column row 3);
}

abbrev pub shown_print : Row → Print
shown_print row = record {
  size = number_in (column row 0);
  digest = bytes_in (column row 1);
  whole = not (number_in (column row 2) == 0);
}

abbrev pub shown_job : Text → Row → Job
shown_job uid row = record { uid = uid; key = shown_key row; body = bytes_in (column row 4) }

abbrev pub shown_progress : Row → Progress
shown_progress row = progress_in (column row 0) (column row 1) (column row 2) (column row 3)

abbrev pub shown_text : Row → Text
shown_text row = text_in (column row 0)

-- a row of state and due says a ledger's numbers
pub record IsCountedAsShown (row : Row) : Type 0 where
  pub state : ℕ
  pub due : ℕ
  pub state_is : column row 0 ≡ Int (pos state)
  pub due_is : column row 1 ≡ Int (pos due)
  pub known : state < 4
  pub fits : due < 2 ^ 63

-- a row of a line's number says a lower one
abbrev pub IsNumberedBelow : ℕ → Row → Type 0
IsNumberedBelow next row = (m : ℕ) × (column row 0 ≡ Int (pos m)) × (m < next)

-- the text that a cell has, or that it has none
abbrev pub IsTextIn : Value → Option Text → Type 0
IsTextIn v None = (text : Text) → v ≡ TextCell text → ⊥
IsTextIn v (Some text) = v ≡ TextCell text

-- the bytes that a cell has, or that it has none
abbrev pub IsBlobIn : Value → Option (List ℕ) → Type 0
IsBlobIn v None = (bytes : List ℕ) → v ≡ Blob bytes → ⊥
IsBlobIn v (Some bytes) = v ≡ Blob bytes

-- a row is that of site's one owner, as `id`, `node` and `plan` show it
pub record IsOwnerRow (row : Row) (owner : Owner) : Type 0 where
  pub id : column row 0 ≡ Int (pos 1)
  pub node : column row 1 ≡ TextCell owner.node
  pub plan : column row 2 ≡ Blob owner.plan

abbrev pub IsOwnerIn : Row → Option Owner → Type 0
IsOwnerIn row None = (owner : Owner) → IsOwnerRow row owner → ⊥
IsOwnerIn row (Some owner) = IsOwnerRow row owner

abbrev pub IsOwnerAsShown : List Row → Option Owner → Type 0
IsOwnerAsShown rows None = (row : Row) (owner : Owner) → rows ≡ row ∷ [] → IsOwnerRow row owner → ⊥
IsOwnerAsShown rows (Some owner) = (row : Row) × (rows ≡ row ∷ []) × IsOwnerRow row owner
