-- Receipts that are compared with a journal by pages of its lines.
use Rattle.std.specs.Prelude.{◌≡◌, ◌≤◌, ◌<◌, ℕ, ◌-◌, List, All, Contains, Option, slice_get}
use Rattle.std.specs.Prelude.{None, Some}
use Rattle.dr_ledger.specs.declared.item.Entry.{Entry}
use Rattle.dr_ledger.specs.Replies.{entry_of}
use Rattle.dr_ledger_history.specs.Lines.{line_of}
use Rattle.dr_ledger_history.specs.declared.line.JournalLine.{JournalLine}
use Rattle.dr_desk.specs.declared.closing.AgreeFault.{AgreeFault}
use Rattle.dr_desk.specs.declared.closing.AgreeFault.TheVariants.{Close, Read}
use Rattle.dr_desk.specs.declared.closing.CloseFault.{CloseFault}
use Rattle.dr_desk.specs.declared.receipt.Receipt.{Receipt}
use Rattle.dr_desk.specs.Agreeing.{Fails, IsOfLine, unread_by}
use Rattle.dr_desk.specs.Receipts.{Records}

-- Where the page, whose lines follow that number, has a line of the receipt's number, it records
-- the receipt's call and its reply.
abbrev pub AgreesWith : ℕ → List JournalLine → Receipt → Type 0
AgreesWith after page receipt =
    (line : JournalLine)
    → after < receipt.number
    → slice_get page (receipt.number - after - 1) ≡ Some line
    → Records (entry_of (line_of line)) receipt.call receipt.reply

-- a receipt with a number from the one on, and below the other, is of its line
abbrev pub IsOfLineWithin : ℕ → ℕ → List Entry → Receipt → Type 0
IsOfLineWithin from end lines receipt =
    from ≤ receipt.number → receipt.number < end → IsOfLine lines receipt

-- the least of the numbers from that one on, and none where all of them are below it
abbrev pub IsLeastFrom : ℕ → List ℕ → Option ℕ → Type 0
IsLeastFrom from all None = All (λ n. n < from) all
IsLeastFrom from all (Some least) =
    (from ≤ least) × Contains all least × All (λ n. from ≤ n → least ≤ n) all

-- what is said where receipts aren't found to agree with the journal: which of the four facts
-- doesn't hold, or nothing where it couldn't be read
abbrev pub Differs : AgreeFault → Type 0 → Type 0 → Type 0 → Type 0 → Type 0
Differs (Read why) Begins Of Rise Apart = Unit {0}
Differs (Close why) Begins Of Rise Apart = Fails why Begins Of Rise Apart

-- why a sharing doesn't end whose receipts aren't found to agree
abbrev pub unagreed_by : AgreeFault → CloseFault
unagreed_by (Read why) = unread_by why
unagreed_by (Close why) = why
