-- What is found in a file, and what an opening answers.
use Rattle.std.specs.Prelude.{◌≡◌, ◌<◌, ◌≤◌, ◌+◌, ◌++◌, ◌⊎◌, ℕ, zero, suc, List, [], ◌∷◌}
use Rattle.std.specs.Prelude.{true, false, IsTrue}
use Rattle.std.specs.Prelude.{IfErr, IfOk, Option, None, Some, Result, Ok, Err, OnOk, length}
use Rattle.std.specs.FinMap as map
use Rattle.sqlite.specs.Effect.{Database, IsDatabase}
use Rattle.sqlite.specs.State.{State, HasCleanDisk}
use Rattle.sqlite.specs.Tree.{Trees}
use Rattle.sqlite_disk.specs.declared.Disk.{Ghosts}
use Rattle.sqlite_schema.specs.declared.schema.Schema.{Schema}
use Rattle.sqlite_trees.specs.View.{doubt}
use Rattle.dr_base.specs.Texts.{Text}
use Rattle.dr_site.specs.Parts.{Part}
use Rattle.dr_ledger.specs.declared.content.Job.{Job}
use Rattle.dr_ledger.specs.declared.fault.LedgerFault.{LedgerFault}
use Rattle.dr_ledger.specs.Books.{empty_book}
use Rattle.dr_ledger.specs.Items.{IsItem, instance_of}
use Rattle.dr_ledger.specs.Replies.{Reads}
use Rattle.dr_store_shelf.specs.declared.either.LedgerShelf.{LedgerShelf}
use Rattle.dr_store_shelf.specs.Either.{IsCleanOn, named_on}
use Rattle.dr_store_schema.specs.Books.{AreBelow, bodies_of, book_of, items_of, lines_of}
use Rattle.dr_store_schema.specs.Ledgers.{AreRows, IsCounted}
use Rattle.dr_store_schema.specs.Tables.{tables}
use Rattle.dr_store_writes.specs.Effects.{IsSiteOf, site_row}
use Rattle.std.specs.List.{AllByRecursion}
use Rattle.dr_store_reads.specs.Queries.{Stays}
use Rattle.dr_store_lists.specs.Lists.{notes_of, whole_prints_of}
use Rattle.dr_store_lists.specs.declared.listing.JournalRow.{JournalRow}
use Rattle.dr_store_changes.specs.Writing.{IsReady}
use Rattle.dr_store_data.specs.declared.mark.DataMark.{DataMark}
use Rattle.dr_store_data.specs.Heads.{HasHead, IsMarkOf}
use Rattle.dr_store_sealed.specs.InTables.{seal_said}
use Rattle.dr_store_calls.specs.Owners.{IsMark, IsMarkAndSeal, IsOwnedBy, IsOwnedSo, IsOwnedWith}
use Rattle.dr_store_calls.specs.Owners.{seal_in}
use Rattle.dr_store_calls.specs.Calling.{IsKept}
use Rattle.dr_store_audit.specs.Found.{HoldTogether}
use Rattle.dr_store_audit.specs.Older.{IsOlder}
use Rattle.dr_store_open.specs.declared.data.OpenedLedger.{OpenedLedger}
use Rattle.dr_store_open.specs.declared.data.DataPlace.{DataPlace}
use Rattle.dr_store_open.specs.declared.fault.OpeningFault.{OpeningFault}
use Rattle.dr_store_open.specs.declared.fault.OpeningFault.TheVariants as opening
use Rattle.dr_store_open.specs.declared.finding.FoundTables.{FoundTables}
use Rattle.dr_store_open.specs.DataSets.{IsOwn}
use Rattle.dr_store_open.specs.Faults.{IsOfData}
use Rattle.dr_store_open.specs.Places.{HasOwnOn, IsAt, IsPlaceOf, IsPlacedBy, names_at, seen_on}
use Rattle.dr_store_open.specs.Renewing.{IsMadeBy, KeepsRows}

-- ---- what is tested of rows

-- the rows of the tables whose rows change or leave have integers for rowids, none twice, and
-- queue's numbers are a ledger's
pub record AreTested (db : Trees) : Type 0 where
  pub items : AreRows (db 1)
  pub prints : AreRows (db 3)
  pub arrivals : AreRows (db 5)
  pub queue : AreRows (db 9)
  pub counted : AllByRecursion IsCounted (db 9)

-- ---- all of it

-- the next line after all lines, which are numbered from 1, has number n
abbrev pub IsNext : ℕ → Trees → Type 0
IsNext n db = n ≡ length (lines_of db) + 1

-- The tables are those of a ledger of that site, whose next line has number n: they hold together.
-- For which data sets their cells stand is another matter (`HaveOwn`).
pub record IsAgreed (n : ℕ) (part : Part) (db : Trees) : Type 0 where
  pub next : IsNext n db
  pub below : AreBelow n (db 11)
  pub hold : HoldTogether [] n part db (map.entries (notes_of db))

-- What is found in the tables of a ledger of that site: the number of its next line, where its data
-- sets are, and all prints.
pub record AreOf (part : Part) (db : Trees) (found : FoundTables) : Type 0 where
  pub agreed : IsAgreed found.next part db
  pub place : IsPlaceOf part db found.place
  pub prints : found.prints.items ≡ map.entries (whole_prints_of db)

-- it is found in tables whose owner's row says that place, or they are no ledger's of that site
abbrev pub IsAgreedIf : Part → DataPlace → Trees → Option FoundTables → Type 0
IsAgreedIf part place db None = (n : ℕ) → IsAgreed n part db → ⊥
IsAgreedIf part place db (Some found) = IsPlaceOf part db place → AreOf part db found

-- no line has left the tables: their seal counts none
abbrev pub HaveAllLines : Trees → Type 0
HaveAllLines db = (seal_in db).count ≡ 0

-- The tables are those of a ledger of that site, it owns them, and they have all its lines; or
-- that isn't so.
abbrev pub IsWholeIf : Part → Trees → Option FoundTables → Type 0
IsWholeIf part db None = (n : ℕ) → IsAgreed n part db → IsOwnedBy part db → HaveAllLines db → ⊥
IsWholeIf part db (Some found) = AreOf part db found × HaveAllLines db

-- each line has a number
abbrev pub HasNumbers : Trees → Type 0
HasNumbers db = (m : ℕ) × AreBelow m (db 11)

-- The database has a ledger of that site, whose next line has number n: it has just a ledger's
-- tables, the site owns them, no line has left them, and they are those of a ledger of that site.
pub record HasLedgerOf (n : ℕ) (part : Part) (db : Database) : Type 0 where
  pub schema : db.schema ≡ tables
  pub owned : IsOwnedBy part db.trees
  pub lines : HaveAllLines db.trees
  pub agreed : IsAgreed n part db.trees

-- it has none, whatever the number of the next line
abbrev pub HasNoLedgerOf : Part → Database → Type 0
HasNoLedgerOf part db = (n : ℕ) → HasLedgerOf n part db → ⊥

-- ---- calls that only read

-- What a call that only reads does, where the store is open: as a query's `Asked`, but that it may
-- make no query at all.
pub record Seen {A : Type 0} (Asks : Database → Type 0) (result : Result A LedgerFault)
    (old new : State) (Shows : A → Type 0) : Type 0 where
  pub shown : HasCleanDisk new → IsTrue old.is_open → Asks old.now → Reads result Shows
  pub same : HasCleanDisk new → IsTrue old.is_open → Asks old.now
      → OnOk result (IsTrue new.is_open × (new.now ≡ old.now))
  pub stays : HasCleanDisk new → IsTrue new.is_open → Asks old.now → Stays old new
  pub leaves : HasCleanDisk new → IsTrue old.is_open → Asks old.now → (db : Trees)
      → new.may_leave db → old.may_leave db
  pub was_open : HasCleanDisk new → IsTrue new.is_open → IsTrue old.is_open
  pub clean : doubt old.is_clean ≤ doubt new.is_clean
  pub idle : old.in_transaction ≡ false → new.in_transaction ≡ false

-- ---- an opening

-- where something is found, this holds of it
abbrev pub IfFound : {A : Type 0} → Result (Option A) LedgerFault → (A → Type 0) → Type 0
IfFound (Ok None) P = Unit {0}
IfFound (Ok (Some x)) P = P x
IfFound (Err why) P = Unit {0}

-- where nothing is found, this holds
abbrev pub IfNotFound : {A : Type 0} → Result (Option A) LedgerFault → Type 0 → Type 0
IfNotFound (Ok None) P = P
IfNotFound (Ok (Some x)) P = Unit {0}
IfNotFound (Err why) P = Unit {0}

-- The store is open with the tables of a ledger of that site, which owns them, and whose next line
-- has number n. All of it was committed before.
pub record IsLedgerFound (n : ℕ) (part : Part) (old new : State) : Type 0 where
  pub kept : IsKept [] n part new
  pub owned : IsOwnedBy part new.committed.trees
  pub next : IsNext n new.committed.trees
  pub ledger : HasLedgerOf n part new.committed
  pub same : new.committed ≡ old.committed

-- Whatever the call answers, nothing is committed, and a crash leaves only what it could leave
-- before.
pub record OnlyLooks (old new : State) : Type 0 where
  pub stays : HasCleanDisk new → IsTrue new.is_open
      → IsTrue old.is_open × (new.committed ≡ old.committed)
  pub leaves : HasCleanDisk new → (db : Trees) → new.may_leave db → old.may_leave db
  pub clean : doubt old.is_clean ≤ doubt new.is_clean
  pub idle : old.in_transaction ≡ false → new.in_transaction ≡ false

-- What tells whether a file has the tables of a ledger of this site does. Where it says what they
-- have, that ledger is found; where it says nothing, the file has no ledger of this site.
pub record IsLedgerOpened (part : Part) (result : Result (Option FoundTables) LedgerFault)
    (old new : State) : Type 0 where
  pub has : IfFound result (λ found. old.now.schema ≡ tables)
  pub is_not : HasCleanDisk new → IfNotFound result (HasNoLedgerOf part old.now)
  pub kept : HasCleanDisk new → IfFound result (λ found. IsLedgerFound found.next part old new)
  pub are : HasCleanDisk new → IfFound result (AreOf part new.committed.trees)
  pub was : HasCleanDisk new → IfFound result (λ found. old.now ≡ new.committed)
  pub looks : OnlyLooks old new

-- What only reads of tables that stand ready does: they stand so still, where it isn't refused.
pub record StaysReady {A E : Type 0} (n : ℕ) (result : Result A E) (old new : State) : Type 0 where
  pub ready : HasCleanDisk new → OnOk result (IsReady n new)
  pub same : HasCleanDisk new → OnOk result (new.committed ≡ old.committed)
  pub looks : OnlyLooks old new

-- ---- a ledger with its shelf

-- the data sets are in rows, and not each is that of its item
abbrev pub HasOther : Part → Trees → Type 0
HasOther part db = IsOwnedWith [] part db × (((uid : Text) → IsOwn uid db) → ⊥)

-- Why a ledger isn't opened whose tables were found: its data sets are in rows, and not each is
-- that of its item; or it is a fault of the file of its data sets, which no ledger has that has
-- them in its rows. What a data set in a file is, is no reason.
abbrev pub IsWhyNot : Part → Trees → OpeningFault → Type 0
IsWhyNot part db fault =
    (fault ≡ opening.OtherSite → HasOther part db)
    × (IsOfData fault → IsOwnedWith [] part db → ⊥)

-- Why none is opened: the file has no ledger of this site, or it is as above.
abbrev pub IsWhy : Part → Database → OpeningFault → Type 0
IsWhy part was fault =
    (fault ≡ opening.OtherSite → (n : ℕ) → HasLedgerOf n part was → HasOther part was.trees)
    × (IsOfData fault → was.schema ≡ tables → IsOwnedWith [] part was.trees → ⊥)

module _ {D : Type 0} {g : Ghosts D} where
  -- What opens a ledger whose tables are there does. Where it answers, the ledger is found with its
  -- shelf. Whatever it answers, it only looks at the tables. `Stood` says that they weren't made
  -- just now.
  pub record IsWholeOpened (Stood : Type 0) (part : Part)
      (result : Result (OpenedLedger D g) OpeningFault) (old new : State) : Type 0 where
    pub has : IfOk result (λ it. old.now.schema ≡ tables)
    pub kept : HasCleanDisk new → IfOk result (λ it. IsLedgerFound it.next part old new)
    pub placed : HasCleanDisk new
        → IfOk result (λ it. IsPlacedBy part new.committed.trees it.shelf)
    pub own : HasCleanDisk new → IfOk result (λ it. HasOwnOn new.committed.trees it.shelf)
    pub why : Stood → HasCleanDisk new → IfErr result (IsWhy part old.now)
    pub looks : OnlyLooks old new

-- there is no table, no index and no view
pub record IsBlank (schema : Schema) : Type 0 where
  pub tables : schema.tables ≡ []
  pub indexes : schema.indexes ≡ []
  pub views : schema.views ≡ []

-- a crash leaves what it could leave before, or what is committed now
abbrev pub LeavesOldOrCommitted : State → State → Type 0
LeavesOldOrCommitted old new =
    (db : Trees) → new.may_leave db → old.may_leave db ⊎ (db ≡ new.committed.trees)

-- what the file had stays, and a crash leaves what it could leave before
pub record StaysAsFound (old new : State) : Type 0 where
  pub committed : new.committed ≡ old.committed
  pub leaves : (db : Trees) → new.may_leave db → old.may_leave db

-- the file has a ledger without any line, and a crash leaves what it could leave before, or that
-- ledger
pub record HasNewLedger (old new : State) : Type 0 where
  pub book : book_of new.committed.trees ≡ empty_book
  pub leaves : LeavesOldOrCommitted old new

-- What a file from before had is there still, in the tables of today: all that the queries ask for.
-- A crash leaves what it could leave before, or what is committed.
pub record IsBroughtOver (old new : State) : Type 0 where
  pub keeps : KeepsRows old.now new.committed
  pub leaves : LeavesOldOrCommitted old new

-- ---- a file that is refused

-- A crash leaves what it could leave before, or a database of which this holds: its trees list the
-- tables that it has, and obey them.
abbrev pub LeavesOldOr : (Database → Type 0) → State → State → Type 0
LeavesOldOr Makes old new =
    (db : Trees)
    → new.may_leave db
    → old.may_leave db ⊎ ((d : Database) × (d.trees ≡ db) × IsDatabase d × Makes d)

-- What an opening for a site may make of a file. One without tables gets those of a new ledger of
-- that site, with no row but the owner's; one from before keeps what it had. Of any other file it
-- makes nothing.
abbrev pub MayMake : Part → Database → Database → Type 0
MayMake part was d =
    (IsBlank was.schema × IsMadeBy part d) ⊎ (IsOlder was.schema × KeepsRows was d)

-- What an opening leaves, whatever it answers, also where the file is refused. A crash leaves what
-- it could leave before, or what an opening makes of the file, whole. Where that is nothing, what
-- was committed stays, as far as the connection is open still.
pub record LeavesFile (part : Part) (old new : State) : Type 0 where
  pub crash : LeavesOldOr (MayMake part old.now) old new
  pub stays : (IsBlank old.now.schema → ⊥)
      → (IsOlder old.now.schema → ⊥)
      → IsTrue new.is_open
      → new.committed ≡ old.committed

-- ---- laws

-- the trees of a site's new ledger, which has no row but the owner's, with that mark
abbrev pub new_trees : Part → List ℕ → Trees
new_trees part mark zero = site_row part.name (part.digest ++ mark) ∷ []
new_trees part mark (suc tree) = []

-- a new ledger is one of its site, and its next line is the first
abbrev pub NewLedgersAreLedgers : Type 0
NewLedgersAreLedgers =
    (part : Part) (mark : List ℕ)
    → length part.digest ≡ 32
    → IsMark mark
    → HasLedgerOf 1 part (record { schema = tables; trees = new_trees part mark })

-- a ledger has its data sets in its rows, or in one file, under one key and with one mark
abbrev pub PlacesAreOne : Type 0
PlacesAreOne =
    (part other : Part) (db : Trees) (place beside : DataPlace)
    → IsPlaceOf part db place
    → IsPlaceOf other db beside
    → place ≡ beside

module _ {D : Type 0} (g : Ghosts D) where
  -- the cells of a shelf name places just where the data sets are in a file
  abbrev pub ShelvesAreInTheirPlaces : Type 0
  ShelvesAreInTheirPlaces =
      (place : DataPlace) (shelf : LedgerShelf D g)
      → IsAt place shelf
      → named_on shelf ≡ names_at place

  -- where the tables have a mark, a ledger's shelf is over a file that has it, and over no other
  abbrev pub MarkedTablesHaveTheirFile : Type 0
  MarkedTablesHaveTheirFile =
      (part other : Part) (db : Trees) (mark : List ℕ) (said : DataMark) (shelf : LedgerShelf D g)
      → IsOwnedWith mark part db
      → IsMarkOf mark said
      → IsPlacedBy other db shelf
      → (named_on shelf ≡ true) × (IsCleanOn shelf → HasHead said.mark (seen_on shelf))

  -- where cells are the data sets themselves, each that is there is that of its item
  abbrev pub RowsHaveDataSets : Type 0
  RowsHaveDataSets =
      (db : Trees) (shelf : LedgerShelf D g)
      → HasOwnOn db shelf
      → named_on shelf ≡ false
      → (uid : Text) (body : List ℕ)
      → map.get (bodies_of db) uid ≡ Some body
      → (item : Job) × IsItem item × (item.body ≡ body)
      × (map.get (items_of db) uid ≡ Some (instance_of item))

-- A site's ledger isn't taken for another's: where its data sets are in a file, whatever they are;
-- where they are in rows, if each is that of its item. Nor is one that has its data sets in rows
-- refused for a file of data sets: for one that is missing, that is there, or that is in use.
pub record LedgersAreTheirSites : Type 0 where
  pub marked : (n : ℕ) (part : Part) (db : Database) (mark : List ℕ) (said : DataMark)
      → HasLedgerOf n part db
      → IsOwnedWith mark part db.trees
      → IsMarkOf mark said
      → IsWhy part db opening.OtherSite → ⊥
  pub own : (n : ℕ) (part : Part) (db : Database)
      → HasLedgerOf n part db
      → ((uid : Text) → IsOwn uid db.trees)
      → IsWhy part db opening.OtherSite → ⊥
  pub lost : (n : ℕ) (part : Part) (db : Database)
      → HasLedgerOf n part db
      → IsOwnedWith [] part db.trees
      → IsWhy part db opening.NoData → ⊥
  pub there : (n : ℕ) (part : Part) (db : Database)
      → HasLedgerOf n part db
      → IsOwnedWith [] part db.trees
      → IsWhy part db opening.DataIsThere → ⊥
  pub in_use : (n : ℕ) (part : Part) (db : Database)
      → HasLedgerOf n part db
      → IsOwnedWith [] part db.trees
      → IsWhy part db opening.InUse → ⊥

-- what a database has is one node's ledger, under one plan, and its next line has one number
abbrev pub LedgersAreOne : Type 0
LedgersAreOne =
    (n m : ℕ) (part other : Part) (db : Database)
    → HasLedgerOf n part db → HasLedgerOf m other db
    → (n ≡ m) × (part.name ≡ other.name) × (part.digest ≡ other.digest)

-- without an owner, with other bytes behind a plan's SHA-256 than those of a mark and a seal, with
-- a seal that counts lines, or with a line under another number than its place, there is none
pub record BadTablesAreNone : Type 0 where
  pub unowned : (part : Part) (db : Database) → db.trees 0 ≡ [] → HasNoLedgerOf part db
  pub unmarked : (part : Part) (db : Database) (node : Text) (digest behind : List ℕ)
      → IsSiteOf node (digest ++ behind) db.trees
      → length digest ≡ 32
      → ((mark seal : List ℕ) → IsMarkAndSeal mark seal behind → ⊥)
      → HasNoLedgerOf part db
  pub sealed : (part other : Part) (db : Database) (mark seal : List ℕ)
      → IsOwnedSo mark seal other db.trees
      → 0 < (seal_said seal).count
      → HasNoLedgerOf part db
  pub renumbered : (part : Part) (db : Database) (note : JournalRow) (rest : List (ℕ × JournalRow))
      → map.entries (notes_of db.trees) ≡ (2, note) ∷ rest
      → HasNoLedgerOf part db
