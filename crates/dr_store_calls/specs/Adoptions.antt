-- What an adoption makes of the tables, and what its call shows.
use Rattle.std.specs.Prelude.{◌≡◌, ◌≤◌, ◌+◌, ◌⊎◌, ℕ, false, IsTrue, List, [], Option, Result}
use Rattle.std.specs.Prelude.{OnErr, OnOk}
use Rattle.sqlite.specs.State.{State, HasCleanDisk}
use Rattle.sqlite.specs.Tree.{Trees, put_row}
use Rattle.sqlite_trees.specs.View.{doubt}
use Rattle.dr_base.specs.Texts.{Text}
use Rattle.dr_site.specs.Parts.{Part}
use Rattle.dr_ledger.specs.declared.fault.LedgerFault.{LedgerFault}
use Rattle.dr_ledger.specs.Adopting.{Adopting, site_after}
use Rattle.dr_ledger.specs.Books.{Adoption, Line, after, not_over}
use Rattle.dr_ledger.specs.Replies.{LastsAfter}
use Rattle.dr_store_schema.specs.Books.{bodies_of, book_of, rows_of}
use Rattle.dr_store_writes.specs.Effects.{IsSiteOf, adopted_line}
use Rattle.dr_store_calls.specs.Calling.{IsKept, IsLeftLedger, advanced}
use Rattle.dr_store_calls.specs.Owners.{IsOwnedSo}

-- ---- the tables

-- no arrival is left, and no row that is over; all other tables stay
pub record Clears (old new : Trees) : Type 0 where
  pub arrivals : new 5 ≡ []
  pub rows : rows_of new ≡ not_over (rows_of old)
  pub site : new 0 ≡ old 0
  pub items : new 1 ≡ old 1
  pub prints : new 3 ≡ old 3
  pub kept : new 7 ≡ old 7
  pub journal : new 11 ≡ old 11
  pub targets : new 12 ≡ old 12

-- site has this for the plan in force, for the same node, and line n is an adoption; all other
-- tables stay
pub record NotesPlan (plan : List ℕ) (n : ℕ) (moment : Option ℕ) (old new : Trees) : Type 0 where
  pub site : (node : Text) (was : List ℕ) → IsSiteOf node was old → IsSiteOf node plan new
  pub journal : new 11 ≡ put_row (adopted_line n moment) (old 11)
  pub items : new 1 ≡ old 1
  pub prints : new 3 ≡ old 3
  pub arrivals : new 5 ≡ old 5
  pub kept : new 7 ≡ old 7
  pub queue : new 9 ≡ old 9
  pub targets : new 12 ≡ old 12

-- An adoption as line n, at that moment, of the plan for which site has this then: arrivals and
-- rows that are over have left, the line stands in the journal, and the plan is in force for the
-- same node. All else stays.
pub record AdoptsPlan (plan : List ℕ) (n : ℕ) (moment : Option ℕ) (old new : Trees) : Type 0 where
  pub site : (node : Text) (was : List ℕ) → IsSiteOf node was old → IsSiteOf node plan new
  pub items : new 1 ≡ old 1
  pub prints : new 3 ≡ old 3
  pub arrivals : new 5 ≡ []
  pub kept : new 7 ≡ old 7
  pub rows : rows_of new ≡ not_over (rows_of old)
  pub journal : new 11 ≡ put_row (adopted_line n moment) (old 11)
  pub targets : new 12 ≡ old 12

-- ---- whose the tables are

-- a site of the same node owned the tables, and the next one owns them, with the same mark and the
-- same seal
pub record IsTakenOver (next : Part) (base db : Trees) : Type 0 where
  pub was : Part
  pub node : was.name ≡ next.name
  pub mark : List ℕ
  pub seal : List ℕ
  pub owned : IsOwnedSo mark seal was base
  pub owns : IsOwnedSo mark seal next db

-- ---- the call

-- the book after an adoption that was accepted, with the same data sets, in tables that the next
-- site has taken over
pub record IsAdopted (next : Part) (base db : Trees) : Type 0 where
  pub book : book_of db ≡ after Adoption (book_of base)
  pub bodies : bodies_of db ≡ bodies_of base
  pub owner : IsTakenOver next base db

-- Book, data sets and tables after an adoption with this answer.
pub record AnswersAdoption (next : Part) (result : Result (Unit {0}) LedgerFault)
    (base db : Trees) : Type 0 where
  pub reply : Adopting (book_of base) result (book_of db)
  pub bodies : bodies_of db ≡ bodies_of base
  pub owner : OnOk result (IsTakenOver next base db)
  pub same : OnErr result (db ≡ base)

-- An adoption of the next site's plan by a ledger of this site, whose next line has number n. Where
-- the tables are as it asks, they are afterwards those of a ledger of the next site where it was
-- accepted, over the same past, and else as they were; the store stays open but where the store
-- failed or memory ran out. A crash leaves what it could leave before, or the tables after the
-- adoption, which are a ledger's of the next site.
pub record Adopted (n : ℕ) (part next : Part) (result : Result (Unit {0}) LedgerFault)
    (old new : State) (Asks : Trees → Type 0) : Type 0 where
  pub clean : doubt old.is_clean ≤ doubt new.is_clean
  pub was_open : HasCleanDisk new → IsTrue new.is_open → IsTrue old.is_open
  pub idle : old.in_transaction ≡ false → new.in_transaction ≡ false
  pub lasts : {past : List Line} → HasCleanDisk new → IsKept past n part old
      → Asks old.committed.trees
      → LastsAfter result (IsTrue new.is_open)
  pub kept : {past : List Line} → HasCleanDisk new → IsTrue new.is_open → IsKept past n part old
      → Asks old.committed.trees
      → IsKept past (advanced result n) (site_after result next part) new
  pub answers : {past : List Line} → HasCleanDisk new → IsTrue new.is_open → IsKept past n part old
      → Asks old.committed.trees
      → AnswersAdoption next result old.committed.trees new.committed.trees
  pub crash : {past : List Line} → HasCleanDisk new → IsKept past n part old
      → Asks old.committed.trees → (db : Trees) → new.may_leave db
      → old.may_leave db
      ⊎ (IsLeftLedger past (n + 1) next db × IsAdopted next old.committed.trees db)
