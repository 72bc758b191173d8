-- Rows that are held, and those that are since their data set can't be read: what becomes of them.
use Rattle.std.specs.Prelude.{◌≡◌, ◌≢◌, ℕ, List, Contains, Option, Some, Ok}
use Rattle.std.specs.FinMap as map
use Rattle.dr_base.specs.Texts.{Text}
use Rattle.dr_ledger.specs.declared.item.Cause.{Cause}
use Rattle.dr_ledger.specs.declared.item.Cause.TheVariants as cause
use Rattle.dr_ledger.specs.declared.item.Instance.{Instance}
use Rattle.dr_ledger.specs.declared.item.Outcome.TheVariants.{Unreadable}
use Rattle.dr_ledger.specs.declared.item.Progress.TheVariants.{Waiting, Held}
use Rattle.dr_ledger.specs.Books.{Book, Line, Requeuing, Dropping, folded}
use Rattle.dr_ledger.specs.Histories.{IsHistory}
use Rattle.dr_ledger.specs.Replies.{IsDue, IsNext, Nexts, Requeues, Settles}
use Rattle.dr_ledger.specs.Routings.{Routing}

-- a row whose data set can't be read is held for that
abbrev pub UnreadableIsHeld : Type 0
UnreadableIsHeld =
    (uid dest : Text) (now : ℕ) (old new : Book)
    → Settles uid dest Unreadable now old (Ok tt) new
    → map.get new.rows (uid, dest) ≡ Some (Held cause.Unreadable)

-- a row that is held is never the next one
abbrev pub HeldIsNeverNext : Type 0
HeldIsNeverNext =
    (b : Book) (dest : Text) (now : ℕ) (item : Instance) (why : Cause)
    → map.get b.rows (item.uid, dest) ≡ Some (Held why)
    → IsNext b dest now item
    → ⊥

-- A row that is held stays so, for that cause, until a person queues it again by name or gives it
-- up by name: whatever else the book accepts under a plan.
abbrev pub HeldUntilNamed : Routing → Type 0
HeldUntilNamed routing =
    (lines : List Line) (b : Book) (uid dest : Text) (why : Cause)
    → IsHistory routing lines b
    → (Contains lines (Requeuing uid dest) → ⊥)
    → ((now : ℕ) → Contains lines (Dropping uid dest now) → ⊥)
    → map.get b.rows (uid, dest) ≡ Some (Held why)
    → map.get (folded b lines).rows (uid, dest) ≡ Some (Held why)

-- A row whose data set can't be read doesn't stand in front of its hop: once it was settled so, the
-- hop goes on with another row that is due.
abbrev pub UnreadableIsPassed : Type 0
UnreadableIsPassed =
    (uid dest other : Text) (at now due : ℕ) (old new : Book) (found : Option Instance)
    → Settles uid dest Unreadable at old (Ok tt) new
    → other ≢ uid
    → IsDue old dest now other due
    → Nexts new dest now found
    → (item : Instance) × (found ≡ Some item) × (item.uid ≢ uid)

-- queued again by name, it is tried as one that never was
abbrev pub UnreadableIsQueuedAgain : Type 0
UnreadableIsQueuedAgain =
    (uid dest : Text) (now : ℕ) (old mid new : Book)
    → Settles uid dest Unreadable now old (Ok tt) mid
    → Requeues uid dest mid (Ok tt) new
    → map.get new.rows (uid, dest) ≡ Some (Waiting 0 0)
