-- The grounds of refusals: where no failure of the store was counted, and memory wasn't wanting, a
-- call is refused for what stands in the book alone. And what an answer finds that comes late.
use Rattle.std.specs.Prelude.{◌≡◌, ◌≢◌, ◌<◌, ◌-◌, ◌^◌, ℕ, List, Contains, Some, Result, Err}
use Rattle.std.specs.FinMap as map
use Rattle.dr_base.specs.Texts.{Text}
use Rattle.dr_ledger.specs.declared.fault.LedgerFault.{LedgerFault}
use Rattle.dr_ledger.specs.declared.fault.LedgerFault.TheVariants as fault
use Rattle.dr_ledger.specs.declared.item.Arrived.{Arrived}
use Rattle.dr_ledger.specs.declared.item.Instance.{Instance}
use Rattle.dr_ledger.specs.declared.item.Outcome.{Outcome}
use Rattle.dr_ledger.specs.declared.item.Progress.TheVariants.{Waiting}
use Rattle.dr_ledger.specs.Adopting.{Adopting}
use Rattle.dr_ledger.specs.Books.{Book, Line, Settling, folded}
use Rattle.dr_ledger.specs.Histories.{IsHistory}
use Rattle.dr_ledger.specs.Replies.{Arrives, Counts, Drops, Forgets, IsAdmitted, IsHeld, IsOver}
use Rattle.dr_ledger.specs.Replies.{IsWaiting, Requeues, Settles}
use Rattle.dr_ledger.specs.Routings.{Routing}

-- ---- refusals

-- the call counted no failure of the store, though one more could have been counted, and memory
-- wasn't wanting
abbrev pub IsUnhindered : LedgerFault → ℕ → ℕ → Type 0
IsUnhindered why before now = (now ≡ before) × (before < 2 ^ 64 - 1) × (why ≢ fault.Memory)

-- a refusal that nothing hindered says that the book doesn't accept the call
abbrev pub HasGrounds : {A : Type 0} → (Result A LedgerFault → Type 0) → Type 0 → Type 0
HasGrounds {A} Answers IsAccepted =
    (why : LedgerFault) (before now : ℕ)
    → Answers (Err why)
    → Counts {A = A} (Err why) before now
    → IsUnhindered why before now
    → IsAccepted → ⊥

abbrev pub ArrivalsHaveGrounds : Routing → Type 0
ArrivalsHaveGrounds routing =
    (caller : Text) (item : Instance) (old new : Book)
    → HasGrounds {A = Arrived} (λ r. Arrives routing caller item old r new)
    (IsAdmitted routing caller item old)

abbrev pub SettlingsHaveGrounds : Type 0
SettlingsHaveGrounds =
    (uid dest : Text) (outcome : Outcome) (now : ℕ) (old new : Book)
    → HasGrounds {A = Unit {0}} (λ r. Settles uid dest outcome now old r new)
    (IsWaiting old uid dest)

abbrev pub RequeuingsHaveGrounds : Type 0
RequeuingsHaveGrounds =
    (uid dest : Text) (old new : Book)
    → HasGrounds {A = Unit {0}} (λ r. Requeues uid dest old r new) (IsHeld old uid dest)

abbrev pub DroppingsHaveGrounds : Type 0
DroppingsHaveGrounds =
    (uid dest : Text) (now : ℕ) (old new : Book)
    → HasGrounds {A = Unit {0}} (λ r. Drops uid dest now old r new) (IsHeld old uid dest)

abbrev pub ForgettingsHaveGrounds : Type 0
ForgettingsHaveGrounds =
    (uid : Text) (old new : Book)
    → HasGrounds {A = Unit {0}} (λ r. Forgets uid old r new) (IsOver old uid)

-- a plan by which no row is unfit is adopted
abbrev pub AdoptionsHaveGrounds : Type 0
AdoptionsHaveGrounds =
    (old new : Book) → HasGrounds {A = Unit {0}} (λ r. Adopting old r new) (Unit {0})

-- where the store isn't the fault, no failure is counted
abbrev pub OthersAreNotCounted : Type 0
OthersAreNotCounted =
    (why : LedgerFault) (before now : ℕ)
    → why ≢ fault.Store
    → Counts {A = Unit {0}} (Err why) before now
    → now ≡ before

-- ---- a row that waits for an answer

-- the row waits so, and the book has that instance
abbrev pub IsAwaited : Book → Text → Text → ℕ → ℕ → Instance → Type 0
IsAwaited b uid dest tries due item =
    (map.get b.rows (uid, dest) ≡ Some (Waiting tries due)) × (map.get b.items uid ≡ Some item)

-- A row that waits goes on waiting as it did, and its instance stays, until a line settles that
-- very row: whatever else the book accepts under a plan. So an answer settles what was handed out,
-- if nobody else settles that row meanwhile.
abbrev pub WaitsUntilSettled : Routing → Type 0
WaitsUntilSettled routing =
    (lines : List Line) (b : Book) (uid dest : Text) (tries due : ℕ) (item : Instance)
    → IsHistory routing lines b
    → ((outcome : Outcome) (now : ℕ) → Contains lines (Settling uid dest outcome now) → ⊥)
    → IsAwaited b uid dest tries due item
    → IsAwaited (folded b lines) uid dest tries due item

-- and nothing of it is over meanwhile
abbrev pub AwaitedIsNotOver : Type 0
AwaitedIsNotOver =
    (b : Book) (uid dest : Text) (tries due : ℕ) (item : Instance)
    → IsAwaited b uid dest tries due item
    → IsOver b uid
    → ⊥
