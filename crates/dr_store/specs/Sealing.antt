-- Lines of a ledger's tables that leave for its past.
use Rattle.std.specs.Prelude.{◌≡◌, ◌≤◌, ◌⊎◌, ◌++◌, ℕ, IsTrue, List, Option, Result, length}
use Rattle.std.specs.Prelude.{map as mapped}
use Rattle.std.specs.FinMap as map
use Rattle.sqlite.specs.State.{State, HasCleanDisk}
use Rattle.sqlite.specs.Tree.{Trees}
use Rattle.sqlite_trees.specs.View.{doubt}
use Rattle.dr_site.specs.Parts.{Part}
use Rattle.dr_ledger.specs.declared.fault.LedgerFault.{LedgerFault}
use Rattle.dr_ledger.specs.Books.{Line}
use Rattle.dr_ledger.specs.Replies.{LastsAfter}
use Rattle.dr_ledger_past.specs.Pasts.{with_past}
use Rattle.dr_ledger_history.specs.declared.line.JournalLine.{JournalLine}
use Rattle.dr_store_sealed.specs.declared.seal.Seal.{Seal}
use Rattle.dr_store_past.specs.declared.lines.PastLine.{PastLine}
use Rattle.dr_store_past.specs.Lines.{all_said, past_in}
use Rattle.dr_store_past.specs.Shown.{AreNextIn}
use Rattle.dr_store_schema.specs.Books.{bodies_of, book_of, lines_of}
use Rattle.dr_store_moments.specs.Moments.{moments_of}
use Rattle.dr_store_calls.specs.Calling.{IsKept, IsLeftLedger}
use Rattle.dr_store_calls.specs.Owners.{seal_in}
use Rattle.dr_store_calls.specs.Sealing.{HasSealed}
use Rattle.dr_store.specs.Pasts.{whole_book}

abbrev pub line_by : PastLine → JournalLine
line_by line = line.line

abbrev pub moment_by : PastLine → Option ℕ
moment_by line = line.moment

-- these are the lines, each with the moment in its place
pub record HaveMoments (lines : List JournalLine) (moments : List (ℕ × Option ℕ))
    (all : List PastLine) : Type 0 where
  pub told : mapped line_by all ≡ lines
  pub beside : mapped moment_by all ≡ mapped (λ (e : ℕ × Option ℕ). e.1) moments

-- the same, of the moments that stand in the tables
abbrev pub HaveMomentsOf : Trees → List JournalLine → List PastLine → Type 0
HaveMomentsOf db lines all = HaveMoments lines (map.entries (moments_of db)) all

-- these are the tables' own lines, each with the moment that stands beside it
pub record AreOwnLines (db : Trees) (lines : List PastLine) : Type 0 where
  pub said : all_said lines ≡ lines_of db
  pub moments : mapped moment_by lines
      ≡ mapped (λ (e : ℕ × Option ℕ). e.1) (map.entries (moments_of db))

-- Lines were taken for the past's, up to that seal: the past goes as far, and what it had has these
-- behind it. Where what is shown is the past now, they were the next ones of all, and it was so
-- before.
pub record TurnsPast (all : List Line) (Had Has : List PastLine → Type 0) (Was Is : Type 0)
    (from to last : Seal) (lines : List PastLine) : Type 0 where
  pub reach : to ≡ last
  pub holds : (before : List PastLine) → Had before → Has (before ++ lines)
  pub next : Is → AreNextIn all from lines
  pub clean : Is → Was

-- A sealing of a ledger of that site, whose next line has number n, over as many of all lines as
-- the one seal counts before it, and as the other counts after it. Where the tables are as it asks,
-- they are a ledger's afterwards, and the whole book and the cells are as they were; the store
-- stays open but where the store failed or memory ran out.
pub record SealsInto (all : List Line) (n : ℕ) (part : Part)
    (result : Result (Unit {0}) LedgerFault) (old new : State) (from to : Seal) : Type 0 where
  pub clean : doubt old.is_clean ≤ doubt new.is_clean
  pub was_open : HasCleanDisk new → IsTrue new.is_open → IsTrue old.is_open
  pub lasts : HasCleanDisk new → IsKept (past_in all from) n part old
      → LastsAfter result (IsTrue new.is_open)
  pub kept : HasCleanDisk new → IsTrue new.is_open → IsKept (past_in all from) n part old
      → IsKept (past_in all to) n part new
  pub book : HasCleanDisk new → IsTrue new.is_open → IsKept (past_in all from) n part old
      → whole_book all new.committed.trees ≡ whole_book all old.committed.trees
  pub cells : HasCleanDisk new → IsTrue new.is_open → IsKept (past_in all from) n part old
      → bodies_of new.committed.trees ≡ bodies_of old.committed.trees

-- ---- what a crash leaves

-- the past has these lines, or others behind them too
abbrev pub HasLinesOf : (List PastLine → Type 0) → List PastLine → Type 0
HasLinesOf Holds before = Holds before ⊎ ((lines : List PastLine) × Holds (before ++ lines))

-- The past has these lines, and behind them those, up to that seal.
abbrev pub HasLinesBehind : (List PastLine → Type 0) → (List PastLine → Seal → Type 0)
    → List PastLine → List PastLine → Seal → Type 0
HasLinesBehind Holds HasWritten before lines last =
    (Holds before × HasWritten lines last) ⊎ Holds (before ++ lines)

-- The tables are those after a sealing of these, up to some seal, and the past has the lines of it:
-- the tables are of the same ledger, over its past with the lines behind it.
pub record IsSealedBeside (Holds : List PastLine → Type 0)
    (HasWritten : List PastLine → Seal → Type 0) (before : List PastLine) (past : List Line)
    (n : ℕ) (part : Part) (base db : Trees) : Type 0 where
  pub lines : List PastLine
  pub last : Seal
  pub own : AreOwnLines base lines
  pub ledger : IsLeftLedger (past ++ lines_of base) n part db
  pub sealed : HasSealed last part base db
  pub has : HasLinesBehind Holds HasWritten before lines last

-- Whatever a crash leaves of the tables, the past has the lines of it: those from before, where the
-- tables may have been so before, and else those up to the new seal.
abbrev pub LeavesWithLines : (List PastLine → Type 0) → (List PastLine → Seal → Type 0)
    → List PastLine → ℕ → Part → State → State → Type 0
LeavesWithLines Holds HasWritten before n part old new =
    (past : List Line) → HasCleanDisk new → IsKept past n part old
    → (db : Trees) → new.may_leave db
    → (old.may_leave db × HasLinesOf Holds before)
    ⊎ IsSealedBeside Holds HasWritten before past n part old.committed.trees db

-- ---- laws

-- Tables that a sealing left have the whole book from before, over their past with the lines behind
-- it, and their seal counts all of these.
pub record HasTheBook (past : List Line) (base db : Trees) : Type 0 where
  pub book : with_past (past ++ lines_of base) (book_of db) ≡ with_past past (book_of base)
  pub counted : length (past ++ lines_of base) ≡ (seal_in db).count

-- so it is with whatever a crash leaves of one, beside a past that has these lines
abbrev pub SealingsLeaveTheBook : (List PastLine → Type 0) → (List PastLine → Seal → Type 0)
    → Type 0
SealingsLeaveTheBook Holds HasWritten =
    (before : List PastLine) (past : List Line) (n : ℕ) (part : Part) (base db : Trees)
    → IsSealedBeside Holds HasWritten before past n part base db
    → HasTheBook past base db
