-- Calls with their replies, and the lines of a journal that record them.
use Rattle.std.specs.Prelude.{◌≡◌, ℕ, ◌+◌, ◌-◌, List, [], ◌∷◌, ◌++◌, length, drop}
use Rattle.dr_base.specs.Texts.{Text}
use Rattle.dr_ledger.specs.declared.content.Job.{Job}
use Rattle.dr_ledger.specs.declared.item.Arrived.TheVariants.{New, Again}
use Rattle.dr_ledger.specs.declared.item.Entry.{Entry}
use Rattle.dr_ledger.specs.declared.item.Entry.TheVariants as entry
use Rattle.dr_desk.specs.declared.receipt.Call.{Call}
use Rattle.dr_desk.specs.declared.receipt.Call.TheVariants.{Arrival, Settling, Requeuing}
use Rattle.dr_desk.specs.declared.receipt.Call.TheVariants.{Dropping, Forgetting}
use Rattle.dr_desk.specs.declared.receipt.Reply.{Reply}
use Rattle.dr_desk.specs.declared.receipt.Reply.TheVariants.{Arrived, Done}
use Rattle.dr_desk.specs.declared.receipt.Receipt.{Receipt}

-- the arrival of an item from a caller, with the length of its data set alone
abbrev pub arrival_of : Text → Job → Call
arrival_of caller item = Arrival caller item.uid item.key (length item.body)

-- The line of a journal is of that call, and says that it was answered so. An adoption is no call
-- on a desk that is shared.
abbrev pub Records : Entry → Call → Reply → Type 0
Records (entry.Arrival caller uid key length to keep) call reply =
    (call ≡ Arrival caller uid key length) × (reply ≡ Arrived New)
Records (entry.Repeat caller uid key length) call reply =
    (call ≡ Arrival caller uid key length) × (reply ≡ Arrived Again)
Records (entry.Settling uid dest outcome now) call reply =
    (call ≡ Settling uid dest outcome now) × (reply ≡ Done)
Records (entry.Requeuing uid dest) call reply = (call ≡ Requeuing uid dest) × (reply ≡ Done)
Records (entry.Dropping uid dest now) call reply =
    (call ≡ Dropping uid dest now) × (reply ≡ Done)
Records (entry.Forgetting uid) call reply = (call ≡ Forgetting uid) × (reply ≡ Done)
Records entry.Adoption call reply = ⊥

abbrev pub receipt : ℕ → Call → Reply → Receipt
receipt number call reply = record { number = number; call = call; reply = reply }

-- the last 1,024 of the receipts
abbrev pub newest : List Receipt → List Receipt
newest receipts = drop (length receipts - 1024) receipts

-- A pass after an accepted call: its count has risen by one, and its newest receipt is of just that
-- call and reply. That it has the number of the call's line `Answering` says, and the comparison
-- with the journal when the sharing ends.
abbrev pub Notes : Call → Reply → ℕ → List Receipt → ℕ → List Receipt → Type 0
Notes call reply count receipts now kept =
    (now ≡ count + 1)
    × ((number : ℕ) × (kept ≡ newest (receipts ++ receipt number call reply ∷ [])))

-- a pass after a call that was refused: its count and its receipts are as they were
abbrev pub LeavesReceipts : ℕ → List Receipt → ℕ → List Receipt → Type 0
LeavesReceipts count receipts now kept = (now ≡ count) × (kept ≡ receipts)
