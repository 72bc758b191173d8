-- Which cells the tables of a ledger have, and which data sets these give. `Uses` says which cells
-- are in use on the ledger's shelf, `Apart` which two can be let go one without the other,
-- `read_of` what can be read by a cell, and `Stands` for which bytes it stands, also through a
-- crash.
use Rattle.std.specs.Prelude.{◌≡◌, ◌≢◌, ◌⊎◌, ℕ, List, [], length, Option, None, Some}
use Rattle.std.specs.Prelude.{map as mapped}
use Rattle.std.specs.Prelude.{◌↔◌, is_some, option_and_then, unwrap_or}
use Rattle.std.specs.FinMap as map
use Rattle.sha2.specs.Sha256.{sha256}
use Rattle.sqlite.specs.State.{State}
use Rattle.sqlite.specs.Tree.{Trees}
use Rattle.dr_base.specs.Texts.{Text}
use Rattle.dr_site.specs.Parts.{Part}
use Rattle.dr_ledger.specs.declared.content.Job.{Job}
use Rattle.dr_ledger.specs.declared.item.Instance.{Instance}
use Rattle.dr_ledger.specs.Bodies.{Bodies, HasAll, IsThere, LosesNone, OnlyLetsGo}
use Rattle.dr_ledger.specs.Books.{Book, Line}
use Rattle.dr_ledger.specs.Items.{IsItem, instance_of}
use Rattle.dr_store_shelf.specs.Tested.{those_if}
use Rattle.dr_store_schema.specs.Books.{bodies_of, book_of, items_of}
use Rattle.dr_store_changes.specs.Bringing.{HasCells}
use Rattle.dr_store_calls.specs.Calling.{IsKept}
use Rattle.dr_store_calls.specs.LettingGo.{AreEachApart}
use Rattle.dr_store.specs.DataSets.{data_set_told}

-- ---- the cells

-- each cell is in use
abbrev pub AreUsed : (List ℕ → Type 0) → Bodies → Type 0
AreUsed Uses cells = (uid : Text) (cell : List ℕ) → map.get cells uid ≡ Some cell → Uses cell

-- The cells of these tables are in use. Each two of them can be let go one without the other.
pub record HaveOwn (Uses : List ℕ → Type 0) (Apart : List ℕ → List ℕ → Type 0)
    (db : Trees) : Type 0 where
  pub used : AreUsed Uses (bodies_of db)
  pub apart : AreEachApart Apart (bodies_of db)

-- The store is open, with the tables of a ledger of that site over that past, whose cells are in
-- use.
pub record KeepsOwn (past : List Line) (Uses : List ℕ → Type 0) (Apart : List ℕ → List ℕ → Type 0)
    (n : ℕ) (part : Part) (s : State) : Type 0 where
  pub kept : IsKept past n part s
  pub own : HaveOwn Uses Apart s.committed.trees

-- each cell stands for the data set of an item, which is the book's
abbrev pub AreOwn : (List ℕ → List ℕ → Type 0) → Book → Bodies → Type 0
AreOwn Stands b cells =
    (uid : Text) (cell : List ℕ)
    → map.get cells uid ≡ Some cell
    → (item : Job) × IsItem item × Stands cell item.body
    × (map.get b.items uid ≡ Some (instance_of item))

-- ---- the data sets

-- what is read of these bytes as the data set of that instance: all of them, where they are that
abbrev pub read_as : Instance → List ℕ → Option (List ℕ)
read_as i bytes = those_if bytes (data_set_told i bytes)

-- the same, where an instance is known and bytes were read
abbrev pub read_where : Option Instance → Option (List ℕ) → Option (List ℕ)
read_where None found = None
read_where (Some i) None = None
read_where (Some i) (Some bytes) = read_as i bytes

-- the data set of that uid, where it can be read: it is what can be read by its cell, and is that
-- of the book's instance
abbrev pub data_set_at : (List ℕ → Option (List ℕ)) → Trees → Text → Option (List ℕ)
data_set_at read_of db uid =
    read_where (map.get (items_of db) uid) (option_and_then read_of (map.get (bodies_of db) uid))

-- a cell's uid with the bytes that can be read by the cell
abbrev pub body_under : (List ℕ → Option (List ℕ)) → Text × List ℕ → Text × List ℕ
body_under read_of e = (e.0, unwrap_or (read_of e.1) [])

-- the data sets of these tables that can be read, by uid
abbrev pub bodies_with : (List ℕ → Option (List ℕ)) → Trees → Bodies
bodies_with read_of db =
    map.retain_keys
    (map.from_entries (mapped (body_under read_of) (map.entries (bodies_of db))))
    (λ uid. is_some (data_set_at read_of db uid))

-- The data set of that uid can be read, and is this: the bytes can be read by its cell, and are the
-- data set of an item, which is the book's.
pub record IsReadAt (read_of : List ℕ → Option (List ℕ)) (db : Trees) (uid : Text)
    (body : List ℕ) : Type 0 where
  pub cell : List ℕ
  pub there : map.get (bodies_of db) uid ≡ Some cell
  pub reads : read_of cell ≡ Some body
  pub item : Job
  pub is_item : IsItem item
  pub same : item.body ≡ body
  pub known : map.get (items_of db) uid ≡ Some (instance_of item)

-- ---- what a call leaves of them

-- no data set is lost between these tables, as what can be read by their cells was and is
abbrev pub LosesNoneOf : (was_of read_of : List ℕ → Option (List ℕ)) → Trees → Trees → Type 0
LosesNoneOf was_of read_of base db =
    LosesNone (book_of base) (bodies_with was_of base) (book_of db) (bodies_with read_of db)

-- each data set that is there was there before, and none is lost
pub record LetsGoOf (was_of read_of : List ℕ → Option (List ℕ)) (base db : Trees) : Type 0 where
  pub lets : OnlyLetsGo (bodies_with was_of base) (bodies_with read_of db)
  pub none_lost : LosesNoneOf was_of read_of base db

-- The data set of each cell can be read, but for one whose cell was there before and that couldn't
-- be read then.
abbrev pub LosesNoCell : (was_of read_of : List ℕ → Option (List ℕ)) → Trees → Trees → Type 0
LosesNoCell was_of read_of base db =
    (uid : Text) (cell : List ℕ)
    → map.get (bodies_of db) uid ≡ Some cell
    → IsThere (bodies_with was_of base) uid ⊎ (map.get (bodies_of base) uid ≡ None)
    → IsThere (bodies_with read_of db) uid

-- The data sets of these tables survive a call, which came upon the others: their cells are in use,
-- and none is lost. Each that can be read stands, so that it survives another crash too.
pub record Survives (Uses : List ℕ → Type 0) (Stands Apart : List ℕ → List ℕ → Type 0)
    (was_of read_of : List ℕ → Option (List ℕ)) (base db : Trees) : Type 0 where
  pub own : HaveOwn Uses Apart db
  pub none_lost : LosesNoCell was_of read_of base db
  pub held : (uid : Text) (body : List ℕ) → map.get (bodies_with read_of db) uid ≡ Some body
      → (cell : List ℕ) × (map.get (bodies_of db) uid ≡ Some cell) × Stands cell body

-- the data sets survive, whatever a crash leaves of these states
abbrev pub IsCovered : (List ℕ → Type 0)
    → (Stands Apart : List ℕ → List ℕ → Type 0)
    → (was_of read_of : List ℕ → Option (List ℕ))
    → Trees
    → (Trees → Type 0) → Type 0
IsCovered Uses Stands Apart was_of read_of base may_leave =
    (db : Trees) → may_leave db → ∥ Survives Uses Stands Apart was_of read_of base db ∥₁

-- ---- laws

-- just those data sets are there that can be read
abbrev pub BodiesAreWhatIsRead : Type 0
BodiesAreWhatIsRead =
    (read_of : List ℕ → Option (List ℕ)) (db : Trees) (uid : Text) (body : List ℕ)
    → (map.get (bodies_with read_of db) uid ≡ Some body) ↔ IsReadAt read_of db uid body

-- Where each cell stands for its item's data set, none is unreadable.
abbrev pub AllThatStandAreThere : (List ℕ → List ℕ → Type 0)
    → (List ℕ → Option (List ℕ)) → Type 0
AllThatStandAreThere Stands read_of =
    (db : Trees)
    → AreOwn Stands (book_of db) (bodies_of db)
    → HasCells (book_of db) (bodies_of db)
    → HasAll (book_of db) (bodies_with read_of db)

-- Bytes with another length or another SHA-256 are no data set of an instance: its data set isn't
-- there where they are what can be read by its cell.
abbrev pub OtherBytesAreNotThere : Type 0
OtherBytesAreNotThere =
    (read_of : List ℕ → Option (List ℕ)) (db : Trees) (uid : Text) (cell bytes : List ℕ)
    (i : Instance)
    → map.get (bodies_of db) uid ≡ Some cell
    → read_of cell ≡ Some bytes
    → map.get (items_of db) uid ≡ Some i
    → (length bytes ≢ i.size) ⊎ (sha256 bytes ≢ i.digest)
    → map.get (bodies_with read_of db) uid ≡ None

-- So it is with the data set of an item that has another uid or another key in that syntax.
abbrev pub OtherItemsAreNotThere : Type 0
OtherItemsAreNotThere =
    (read_of : List ℕ → Option (List ℕ)) (db : Trees) (uid : Text) (cell : List ℕ)
    (i : Instance) (item : Job)
    → IsItem item
    → map.get (bodies_of db) uid ≡ Some cell
    → read_of cell ≡ Some item.body
    → map.get (items_of db) uid ≡ Some i
    → item.key.syntax ≡ i.key.syntax
    → (item.uid ≢ i.uid) ⊎ (item.key ≢ i.key)
    → map.get (bodies_with read_of db) uid ≡ None

-- The data set of an item that the book has is there where it is what can be read by its cell.
abbrev pub ItsOwnIsThere : Type 0
ItsOwnIsThere =
    (read_of : List ℕ → Option (List ℕ)) (db : Trees) (uid : Text) (cell : List ℕ) (item : Job)
    → IsItem item
    → map.get (bodies_of db) uid ≡ Some cell
    → read_of cell ≡ Some item.body
    → map.get (items_of db) uid ≡ Some (instance_of item)
    → map.get (bodies_with read_of db) uid ≡ Some item.body
