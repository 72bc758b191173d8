-- A call of a ledger over a connection.
use Rattle.std.specs.Prelude.{◌≡◌, ◌≤◌, ◌+◌, ◌⊎◌, ℕ, false, IsTrue, List, length, Result, Ok, Err}
use Rattle.sqlite.specs.State.{State, HasCleanDisk}
use Rattle.sqlite.specs.Tree.{Trees}
use Rattle.sqlite_trees.specs.View.{doubt}
use Rattle.dr_site.specs.Parts.{Part}
use Rattle.dr_ledger.specs.declared.fault.LedgerFault.{LedgerFault}
use Rattle.dr_ledger.specs.declared.fault.LedgerFault.TheVariants as fault
use Rattle.dr_ledger.specs.Books.{Line}
use Rattle.dr_ledger.specs.Histories.{IsJournalled}
use Rattle.dr_ledger.specs.Replies.{LastsAfter, Reads}
use Rattle.dr_ledger.specs.SiteRoutes.{site_routing}
use Rattle.dr_ledger_past.specs.Pasts.{with_past}
use Rattle.dr_store_schema.specs.Books.{bodies_of, book_of}
use Rattle.dr_store_changes.specs.Bringing.{GoNowhere, HasCells}
use Rattle.dr_store_changes.specs.Changes.{AreTogether}
use Rattle.dr_store_changes.specs.Writing.{AreLedgers, AreNumberedTo, IsReady}
use Rattle.dr_store_calls.specs.Owners.{IsOwnedBy, seal_in}

-- the disk has returned what was written, and the store is open
abbrev pub IsSafe : State → Type 0
IsSafe s = HasCleanDisk s × IsTrue s.is_open

-- What the tables of a ledger of that site show, where its next line has number n, and where these
-- lines of its past stand elsewhere: the site owns the tables, whose seal counts the past, each
-- item is beside its print, and the lines' numbers count up from the one behind the past to the one
-- before n. No line that is still to come goes anywhere, the journal makes the book, the past's
-- lines before those of the tables, and there is a cell for just the data sets that the book needs.
pub record IsLedgerOf (past : List Line) (n : ℕ) (part : Part) (db : Trees) : Type 0 where
  pub owned : IsOwnedBy part db
  pub counted : length past ≡ (seal_in db).count
  pub together : AreTogether db
  pub numbered : AreNumberedTo (length past + 1) n (db 11)
  pub ahead : GoNowhere n db
  pub journalled : IsJournalled (site_routing part) (with_past past (book_of db))
  pub bodied : HasCells (book_of db) (bodies_of db)

-- The trees are those of a database with a ledger's tables, and these are of a ledger of that site.
pub record IsLeftLedger (past : List Line) (n : ℕ) (part : Part) (db : Trees) : Type 0 where
  pub whole : AreLedgers db
  pub ledger : IsLedgerOf past n part db

-- the store is open, with the tables of a ledger of that site
pub record IsKept (past : List Line) (n : ℕ) (part : Part) (s : State) : Type 0 where
  pub ready : IsReady n s
  pub ledger : IsLedgerOf past n part s.committed.trees

-- the number of the next line, after a call that adds one where it is accepted
abbrev pub advanced : {A : Type 0} → Result A LedgerFault → ℕ → ℕ
advanced (Ok value) n = n + 1
advanced (Err why) n = n

-- A call of a ledger of that site, whose next line has number n before it and m after it. Where the
-- tables are as it asks, it answers for the tables committed before and after it, and the ledger's
-- tables are kept, over whatever past; the store stays open but where the store failed or memory
-- ran out. A crash leaves what it could leave before, or what the call makes of the tables: those
-- of a ledger of that site, over the same past and with one line more.
pub record Called {A : Type 0} (n m : ℕ) (part : Part) (result : Result A LedgerFault)
    (old new : State) (Asks : Trees → Type 0)
    (Answers Makes : Trees → Trees → Type 0) : Type 0 where
  pub clean : doubt old.is_clean ≤ doubt new.is_clean
  pub was_open : HasCleanDisk new → IsTrue new.is_open → IsTrue old.is_open
  pub idle : old.in_transaction ≡ false → new.in_transaction ≡ false
  pub lasts : {past : List Line} → HasCleanDisk new → IsKept past n part old
      → Asks old.committed.trees
      → LastsAfter result (IsTrue new.is_open)
  pub kept : {past : List Line} → HasCleanDisk new → IsTrue new.is_open → IsKept past n part old
      → Asks old.committed.trees
      → IsKept past m part new
  pub answers : {past : List Line} → HasCleanDisk new → IsTrue new.is_open → IsKept past n part old
      → Asks old.committed.trees
      → Answers old.committed.trees new.committed.trees
  pub crash : {past : List Line} → HasCleanDisk new → IsKept past n part old
      → Asks old.committed.trees → (db : Trees) → new.may_leave db
      → old.may_leave db ⊎ (IsLeftLedger past (n + 1) part db × Makes old.committed.trees db)

-- nothing is asked of the tables
abbrev pub Nothing : Trees → Type 0
Nothing db = Unit {0}

-- A call that only reads: it shows this of the tables, which stay.
abbrev pub Looked : {A : Type 0} → ℕ → Part → Result A LedgerFault → State → State
    → (Trees → A → Type 0) → Type 0
Looked n part result old new Shows = Called n n part result old new Nothing
    (λ base db. (db ≡ base) × Reads result (Shows base))
    (λ base db. ⊥)

-- a fault that may come whatever the book is
abbrev pub IsOwnFault : LedgerFault → Type 0
IsOwnFault why = (why ≡ fault.Store) ⊎ (why ≡ fault.Memory)
