-- Laws of ledgers over a past.
use Rattle.std.specs.Prelude.{◌≡◌, ◌+◌, ℕ, List, ◌++◌, length}
use Rattle.sqlite.specs.Tree.{Trees}
use Rattle.dr_site.specs.Parts.{Part}
use Rattle.dr_ledger.specs.Books.{Line}
use Rattle.dr_ledger_past.specs.Pasts.{with_past}
use Rattle.dr_store_sealed.specs.declared.seal.Seal.{Seal}
use Rattle.dr_store_schema.specs.Books.{book_of, lines_of}
use Rattle.dr_store_changes.specs.Sealing.{SealsLines}
use Rattle.dr_store_calls.specs.Calling.{IsLedgerOf}
use Rattle.dr_store_calls.specs.Owners.{IsOwnedBy, seal_in}
use Rattle.dr_store_calls.specs.Sealing.{HasSealed}

-- Lines leave a ledger's tables and stand behind its past then. Where the site owns the tables
-- still, and their seal counts all lines before the next one, they are those of the same ledger,
-- over that past; the book with its past is the same, and the next line has the same number.
abbrev pub LinesMayLeave : Type 0
LinesMayLeave =
    (past : List Line) (n : ℕ) (part : Part) (plan : List ℕ) (old new : Trees)
    → IsLedgerOf past n part old → SealsLines plan old new → IsOwnedBy part new
    → (seal_in new).count + 1 ≡ n
    → IsLedgerOf (past ++ lines_of old) n part new
    × (with_past (past ++ lines_of old) (book_of new) ≡ with_past past (book_of old))

-- The book with its past is the same after a sealing.
abbrev pub SealingsKeepTheBook : Type 0
SealingsKeepTheBook =
    (past : List Line) (last : Seal) (part : Part) (base db : Trees)
    → HasSealed last part base db
    → with_past (past ++ lines_of base) (book_of db) ≡ with_past past (book_of base)

-- The next line's number is one above the count of all lines, those of the past too.
abbrev pub NumbersCountAllLines : Type 0
NumbersCountAllLines =
    (past : List Line) (n : ℕ) (part : Part) (db : Trees)
    → IsLedgerOf past n part db
    → n ≡ length (with_past past (book_of db)).lines + 1

-- It is one above what the tables alone say: the lines that their seal counts, and their own.
abbrev pub NumbersGoOnFromTheSeal : Type 0
NumbersGoOnFromTheSeal =
    (past : List Line) (n : ℕ) (part : Part) (db : Trees)
    → IsLedgerOf past n part db
    → n ≡ (seal_in db).count + length (lines_of db) + 1

-- After a sealing, the past over which the tables are a ledger's has as many lines as the new seal
-- counts, and the next line is the one behind them.
abbrev pub SealsCountThePast : Type 0
SealsCountThePast =
    (past : List Line) (n : ℕ) (last : Seal) (part other : Part) (base db : Trees)
    → HasSealed last part base db → IsLedgerOf past n other db
    → (length past ≡ last.count) × (n ≡ last.count + 1)
