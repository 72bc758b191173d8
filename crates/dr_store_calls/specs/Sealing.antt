-- What is said of a call by which all lines leave a ledger's tables.
use Rattle.std.specs.Prelude.{◌≡◌, ◌≤◌, ◌⊎◌, ℕ, IsTrue, List, ◌++◌, OnErr, OnOk, Result, Ok, Err}
use Rattle.sqlite.specs.State.{State, HasCleanDisk}
use Rattle.sqlite.specs.Tree.{Trees}
use Rattle.sqlite_trees.specs.View.{doubt}
use Rattle.dr_site.specs.Parts.{Part}
use Rattle.dr_ledger.specs.declared.fault.LedgerFault.{LedgerFault}
use Rattle.dr_ledger.specs.Books.{Line}
use Rattle.dr_ledger.specs.Replies.{LastsAfter}
use Rattle.dr_store_sealed.specs.declared.seal.Seal.{Seal}
use Rattle.dr_store_sealed.specs.InTables.{bytes_of_seal}
use Rattle.dr_store_schema.specs.Books.{bodies_of, book_of, lines_of}
use Rattle.dr_store_changes.specs.Sealing.{without_lines}
use Rattle.dr_store_calls.specs.Calling.{IsKept, IsLeftLedger}
use Rattle.dr_store_calls.specs.Owners.{IsOwnedSo, seal_in}

-- The book is the same but for its lines, which have left, and so are the data sets. The tables say
-- that lines have left up to this seal. The site owns them as before, with the same mark.
pub record HasSealed (last : Seal) (part : Part) (base db : Trees) : Type 0 where
  pub book : book_of db ≡ without_lines (book_of base)
  pub bodies : bodies_of db ≡ bodies_of base
  pub seal : seal_in db ≡ last
  pub owned : (mark was : List ℕ) → IsOwnedSo mark was part base
      → IsOwnedSo mark (bytes_of_seal last) part db

-- a ledger's past after a sealing with this answer: where it was accepted, the tables' lines stand
-- behind it
abbrev pub past_after : Result (Unit {0}) LedgerFault → List Line → Trees → List Line
past_after (Ok done) past base = past ++ lines_of base
past_after (Err why) past base = past

-- A sealing of a ledger of that site, whose next line has number n, before it and after it. Where
-- the tables are as it asks, they are a ledger's of the same site afterwards: over the past with
-- their lines behind it where it was accepted, and else as they were; the store stays open but
-- where the store failed or memory ran out. A crash leaves what it could leave before, or the
-- tables after the sealing.
pub record Sealed (n : ℕ) (part : Part) (last : Seal) (result : Result (Unit {0}) LedgerFault)
    (old new : State) (Asks : Trees → Type 0) : Type 0 where
  pub clean : doubt old.is_clean ≤ doubt new.is_clean
  pub was_open : HasCleanDisk new → IsTrue new.is_open → IsTrue old.is_open
  pub lasts : {past : List Line} → HasCleanDisk new → IsKept past n part old
      → Asks old.committed.trees
      → LastsAfter result (IsTrue new.is_open)
  pub kept : {past : List Line} → HasCleanDisk new → IsTrue new.is_open → IsKept past n part old
      → Asks old.committed.trees
      → IsKept (past_after result past old.committed.trees) n part new
  pub sealed : {past : List Line} → HasCleanDisk new → IsTrue new.is_open → IsKept past n part old
      → Asks old.committed.trees
      → OnOk result (HasSealed last part old.committed.trees new.committed.trees)
  pub same : {past : List Line} → HasCleanDisk new → IsTrue new.is_open → IsKept past n part old
      → Asks old.committed.trees
      → OnErr result (new.committed.trees ≡ old.committed.trees)
  pub crash : {past : List Line} → HasCleanDisk new → IsKept past n part old
      → Asks old.committed.trees → (db : Trees) → new.may_leave db
      → old.may_leave db
      ⊎ (IsLeftLedger (past ++ lines_of old.committed.trees) n part db
      × HasSealed last part old.committed.trees db)
