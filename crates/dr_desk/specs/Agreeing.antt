-- Receipts that agree with a journal.
use Rattle.std.specs.Prelude.{◌≡◌, ◌≤◌, ◌<◌, ℕ, ◌-◌, nat_eq, List, length, slice_get, Some}
use Rattle.std.specs.Prelude.{map as mapped}
use Rattle.std.specs.List.{AllAdjacentBelow, IsDistinct}
use Rattle.dr_ledger.specs.declared.item.Entry.{Entry}
use Rattle.dr_ledger.specs.declared.fault.LedgerFault.{LedgerFault}
use Rattle.dr_ledger.specs.declared.fault.LedgerFault.TheVariants as ledger
use Rattle.dr_desk.specs.declared.closing.CloseFault.{CloseFault}
use Rattle.dr_desk.specs.declared.closing.CloseFault.TheVariants as fault
use Rattle.dr_desk.specs.declared.closing.ReceiptMismatch.TheVariants.{Beginning, OtherLine}
use Rattle.dr_desk.specs.declared.closing.ReceiptMismatch.TheVariants.{Falling}
use Rattle.dr_desk.specs.declared.closing.ReceiptMismatch.TheVariants.{Twice}
use Rattle.dr_desk.specs.declared.receipt.Receipt.{Receipt}
use Rattle.dr_desk.specs.Receipts.{Records}

-- the journal has a line of the receipt's number, which records its call and its reply; the first
-- line has the number 1
pub record IsOfLine (lines : List Entry) (receipt : Receipt) : Type 0 where
  pub line : Entry
  pub counted : 1 ≤ receipt.number
  pub stands : slice_get lines (receipt.number - 1) ≡ Some line
  pub records : Records line receipt.call receipt.reply

-- the numbers rise from each receipt to the next
abbrev pub Rises : List Receipt → Type 0
Rises receipts =
    AllAdjacentBelow (λ (a b : Receipt). a.number < b.number) receipts (length receipts)

abbrev pub numbers : List Receipt → List ℕ
numbers receipts = mapped (λ (r : Receipt). r.number) receipts

-- no number stands twice
abbrev pub AreApart : List ℕ → Type 0
AreApart all = IsDistinct nat_eq all

-- what a refusal to end the sharing says: which of the four facts doesn't hold
abbrev pub Fails : CloseFault → Type 0 → Type 0 → Type 0 → Type 0 → Type 0
Fails (fault.Receipt Beginning) Begins Of Rise Apart = Begins → ⊥
Fails (fault.Receipt OtherLine) Begins Of Rise Apart = Of → ⊥
Fails (fault.Receipt Falling) Begins Of Rise Apart = Rise → ⊥
Fails (fault.Receipt Twice) Begins Of Rise Apart = Apart → ⊥
Fails fault.Store Begins Of Rise Apart = Unit {0}
Fails fault.Memory Begins Of Rise Apart = Unit {0}

-- why a sharing doesn't end whose journal can't be read; by the ledger's premise only its store and
-- memory can be the cause
abbrev pub unread_by : LedgerFault → CloseFault
unread_by ledger.Memory = fault.Memory
unread_by ledger.Store = fault.Store
unread_by ledger.NoLine = fault.Store
unread_by ledger.Conflict = fault.Store
unread_by ledger.NotWaiting = fault.Store
unread_by ledger.NotHeld = fault.Store
unread_by ledger.NotOver = fault.Store
