-- What a call on a desk that threads share came to. Another thread may call before it and after it:
-- so its answer is said of two states of the ledger, one before the ledger's own call and one
-- after.
use Rattle.std.specs.Prelude.{◌≡◌, ◌≤◌, ◌⊎◌, ◌∷◌, ◌++◌, [], ℕ, List, length, Result, Ok, Err}
use Rattle.dr_ledger.specs.declared.fault.LedgerFault.{LedgerFault}
use Rattle.dr_ledger.specs.declared.fault.LedgerFault.TheVariants as fault
use Rattle.dr_ledger.specs.Books.{Book, Line, most_lines}
use Rattle.dr_ledger.specs.Replies.{Counts}
use Rattle.dr_site.specs.Parts.{Part}
use Rattle.dr_desk.specs.declared.receipt.Call.{Call}
use Rattle.dr_desk.specs.declared.receipt.Receipt.{Receipt}
use Rattle.dr_desk.specs.declared.receipt.Reply.{Reply}
use Rattle.dr_desk.specs.Growing.{BeginWith}
use Rattle.dr_desk.specs.Receipts.{newest, receipt}

module _ {L : Type 0} (site_of : L → Part) (book : L → Book) (stands : L → Type 0)
    (failed : L → ℕ) (own : Part) (first : List Line) where
  -- the ledger of that desk while it is shared: it is of its site, and its journal begins with the
  -- lines that it had
  abbrev pub IsShared : L → Type 0
  IsShared ledger = (site_of ledger ≡ own) × (stands ledger → BeginWith first (book ledger).lines)

  -- the ledger's call was accepted with that answer, and its line is the last one, which has that
  -- number; it isn't beyond those with which a journal is full
  abbrev pub Accepts : {A : Type 0} (Says : Book → Result A LedgerFault → Book → Type 0)
      → A → ℕ → L → L → Type 0
  Accepts Says answer number old new =
      IsShared old
      × (stands new
      → Says (book old) (Ok answer) (book new) × (number ≡ length (book new).lines))
      × (number ≤ most_lines)

  -- the ledger's call was refused so
  abbrev pub SaysNo : {A : Type 0} (Says : Book → Result A LedgerFault → Book → Type 0)
      → LedgerFault → L → L → Type 0
  SaysNo {A = A} Says why old new =
      (stands new → Says (book old) (Err why) (book new))
      × Counts {A = A} (Err why) (failed old) (failed new)

  -- its journal is full, which counts as a failed store: the ledger isn't called
  abbrev pub IsFull : LedgerFault → L → L → Type 0
  IsFull why old new =
      (why ≡ fault.Store) × (new ≡ old)
      × (stands old → most_lines ≤ length (book old).lines)

  -- the ledger refused the call, or it wasn't called, since its journal is full
  abbrev pub Refuses : {A : Type 0} (Says : Book → Result A LedgerFault → Book → Type 0)
      → LedgerFault → L → L → Type 0
  Refuses Says why old new = IsShared old × (IsFull why old new ⊎ SaysNo Says why old new)

  -- What is answered to a caller, beside the receipts of its pass. What was accepted is what the
  -- ledger accepted, and the newest receipt has the number of its line. What was refused the ledger
  -- refused, and has no line; or its journal is full; or there was no memory for a receipt, and
  -- then the ledger wasn't called.
  abbrev pub Answers : {A : Type 0} (Says : Book → Result A LedgerFault → Book → Type 0)
      → Call → (A → Reply) → Result A LedgerFault → List Receipt → List Receipt → Type 0
  Answers Says call reply_of (Ok answer) receipts kept =
      (old new : L) × (number : ℕ)
      × Accepts Says answer number old new
      × (kept ≡ newest (receipts ++ receipt number call (reply_of answer) ∷ []))
  Answers Says call reply_of (Err why) receipts kept =
      (why ≡ fault.Memory) ⊎ ((old new : L) × Refuses Says why old new)

  -- a refusal leaves the book
  abbrev pub RefusalLeaves : {A : Type 0} (Says : Book → Result A LedgerFault → Book → Type 0)
      → Type 0
  RefusalLeaves Says =
      (why : LedgerFault) (old new : L)
      → Refuses Says why old new → stands new → book new ≡ book old
