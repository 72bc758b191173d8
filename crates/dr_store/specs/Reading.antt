-- What single queries show together, and what of it is read from the shelf. `Uses` says which cells
-- are in use there, and `read_of` what can be read by a cell.
use Rattle.std.specs.Prelude.{◌≡◌, ◌≢◌, ◌⊎◌, ◌↔◌, ℕ, Bool, true, false, IsTrue, List}
use Rattle.std.specs.Prelude.{Option, Some, None, Result, Ok, Err}
use Rattle.std.specs.FinMap as map
use Rattle.std.specs.FinSet as set
use Rattle.sqlite.specs.State.{State, HasCleanDisk}
use Rattle.sqlite.specs.Tree.{Trees}
use Rattle.dr_base.specs.Texts.{Text}
use Rattle.dr_ledger.specs.declared.content.Job.{Job}
use Rattle.dr_ledger.specs.declared.content.NextRow.{NextRow}
use Rattle.dr_ledger.specs.declared.content.NextRow.TheVariants.{Whole, Unreadable}
use Rattle.dr_ledger.specs.declared.fault.LedgerFault.{LedgerFault}
use Rattle.dr_ledger.specs.declared.fault.LedgerFault.TheVariants as fault
use Rattle.dr_ledger.specs.declared.item.Instance.{Instance}
use Rattle.dr_ledger.specs.declared.item.Progress.{Progress}
use Rattle.dr_ledger.specs.Bodies.{Bodies, IsNeeded, IsThere}
use Rattle.dr_ledger.specs.Books.{Book, Line, is_queued}
use Rattle.dr_ledger.specs.Pairs.{Pair}
use Rattle.dr_ledger.specs.Replies.{Counts, PremiseLasts}
use Rattle.dr_store_schema.specs.Books.{book_of, contents_in, items_of}
use Rattle.dr_store_calls.specs.Calling.{IsSafe}
use Rattle.dr_store_calls.specs.declared.knowing.Known.{Known}
use Rattle.dr_store_calls.specs.declared.knowing.Known.TheVariants as known
use Rattle.dr_store_reads.specs.Queries.{IsFirstDue}
use Rattle.dr_store.specs.declared.due.DueRow.{DueRow}
use Rattle.dr_store.specs.DataSets.{IsDataSetOf, job_with}
use Rattle.dr_store.specs.Owning.{bodies_with}
use Rattle.dr_store.specs.Pasts.{whole_book}

-- the instance of that uid, with what stands in its row for its data set
abbrev pub IsRowOf : Text → Trees → DueRow → Type 0
IsRowOf uid db due =
    (due.instance.uid ≡ uid)
    × (map.get (items_of db) uid ≡ Some due.instance)
    × (map.get (contents_in (db 1)) uid ≡ Some due.cell)

-- there is such an instance
abbrev pub IsSomeRowOf : Text → Trees → Option DueRow → Type 0
IsSomeRowOf uid db None = ⊥
IsSomeRowOf uid db (Some due) = IsRowOf uid db due

-- the instance of the first row that is due, with what stands in its row for its data set, or none
-- where no row is due
abbrev pub NextsStored : Trees → Text → ℕ → Option DueRow → Type 0
NextsStored db dest now None = IsFirstDue db dest now None
NextsStored db dest now (Some due) =
    IsFirstDue db dest now (Some due.instance.uid) × IsRowOf due.instance.uid db due

-- A row of the instance is handed out with these bytes, which are its data set; or only with the
-- uid, where they aren't.
abbrev pub IsReadAgain : Instance → List ℕ → NextRow → Type 0
IsReadAgain i bytes (Whole job) = (job ≡ job_with i bytes) × IsDataSetOf i bytes
IsReadAgain i bytes (Unreadable uid) = (uid ≡ i.uid) × (IsDataSetOf i bytes → ⊥)

-- The row is handed out with the data set of its instance, which can be read by its cell; or only
-- with the uid, where none can.
abbrev pub IsHandedOut : (List ℕ → Option (List ℕ)) → DueRow → NextRow → Type 0
IsHandedOut read_of due (Whole job) =
    (job ≡ job_with due.instance job.body)
    × (read_of due.cell ≡ Some job.body)
    × IsDataSetOf due.instance job.body
IsHandedOut read_of due (Unreadable uid) =
    (uid ≡ due.instance.uid)
    × ((bytes : List ℕ)
    → read_of due.cell ≡ Some bytes
    → IsDataSetOf due.instance bytes
    → ⊥)

-- the first row that is due, as it is handed out where its cell is in use, or none where no row is
-- due
abbrev pub NextsRead : (List ℕ → Type 0)
    → (List ℕ → Option (List ℕ)) → Trees → Text → ℕ → Option NextRow → Type 0
NextsRead Uses read_of db dest now None = IsFirstDue db dest now None
NextsRead Uses read_of db dest now (Some row) =
    (due : DueRow)
    × NextsStored db dest now (Some due)
    × (Uses due.cell → IsHandedOut read_of due row)

-- the row has its data set
abbrev pub IsWholeRow : NextRow → Bool → Type 0
IsWholeRow (Whole job) told = told ≡ true
IsWholeRow (Unreadable uid) told = told ≡ false

-- it is told whether the data set of the instance can be read by its cell
abbrev pub IsTold : (List ℕ → Option (List ℕ)) → DueRow → Bool → Type 0
IsTold read_of due true =
    (bytes : List ℕ) × (read_of due.cell ≡ Some bytes) × IsDataSetOf due.instance bytes
IsTold read_of due false =
    (bytes : List ℕ) → read_of due.cell ≡ Some bytes → IsDataSetOf due.instance bytes → ⊥

-- it is told so of the instance of that uid, where its cell is in use
abbrev pub IsToldOf : (List ℕ → Type 0)
    → (List ℕ → Option (List ℕ)) → Trees → Text → Bool → Type 0
IsToldOf Uses read_of db uid told =
    (due : DueRow) × IsRowOf uid db due × (Uses due.cell → IsTold read_of due told)

-- of a data set that the book needs it is told whether it is there
abbrev pub TellsWhereNeeded : (List ℕ → Option (List ℕ)) → Trees → Text → Bool → Type 0
TellsWhereNeeded read_of db uid told =
    IsNeeded (book_of db) uid → IsTrue told ↔ IsThere (bodies_with read_of db) uid

-- an arrival is refused just where another instance has its uid
abbrev pub AdmitsKnown : Known → Result (Unit {0}) LedgerFault → Type 0
AdmitsKnown known.No result = result ≡ Ok tt
AdmitsKnown known.Other result = result ≡ Err fault.Conflict
AdmitsKnown (known.Same whole) result = result ≡ Ok tt

-- What a call that reads data sets leaves: the book and what can be read are as they were, and so
-- is the count of failures, but where the store fails. `Was` and `Is` say that the shelf and the
-- past are clean, and `all` are all lines that are ever sealed.
pub record LeavesAsRead {A : Type 0} (all : List Line) (result : Result A LedgerFault)
    (was_of read_of : List ℕ → Option (List ℕ)) (Was Is : Type 0)
    (old new : State) (before now : ℕ) : Type 0 where
  pub same : Is
      → IsSafe new
      → (whole_book all new.committed.trees ≡ whole_book all old.committed.trees)
      × (bodies_with read_of new.committed.trees ≡ bodies_with was_of old.committed.trees)
  pub stood : Is → IsSafe new → IsSafe old × Was
  pub lasts : PremiseLasts result
      (HasCleanDisk old × Was) (HasCleanDisk new × Is) (IsSafe old × Was) (IsSafe new × Is)
  pub counts : Counts result before now

-- ---- which can't be read

-- each kept instance has its data set
abbrev pub KeptAreThere : Book → Bodies → Type 0
KeptAreThere b bodies =
    (uid : Text) → set.contains b.kept uid ≡ true → IsThere bodies uid

-- each instance that is still queued has it
abbrev pub QueuedAreThere : Book → Bodies → Type 0
QueuedAreThere b bodies =
    (uid dest : Text) (row : Progress)
    → map.get b.rows (uid, dest) ≡ Some row
    → is_queued row ≡ true
    → IsThere bodies uid

-- A row is no longer queued, or it is told of its instance whether its data set can be read.
abbrev pub TellsWhereQueued : (List ℕ → Option (List ℕ))
    → Trees
    → Pair × Progress
    → Bool → Type 0
TellsWhereQueued read_of db row told =
    ((is_queued row.1 ≡ false) × (told ≡ true))
    ⊎ ((is_queued row.1 ≡ true) × TellsWhereNeeded read_of db row.0.0 told)

-- those that are looked at have their data sets, or that of this uid is needed and can't be read
abbrev pub FindsUnreadable : (Book → Bodies → Type 0)
    → (List ℕ → Option (List ℕ))
    → Trees
    → Option Text → Type 0
FindsUnreadable HaveTheirs read_of db None = HaveTheirs (book_of db) (bodies_with read_of db)
FindsUnreadable HaveTheirs read_of db (Some uid) =
    IsNeeded (book_of db) uid × (IsThere (bodies_with read_of db) uid → ⊥)
