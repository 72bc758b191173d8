-- What the calls of a session do to the pass of the worker that serves it.
use Rattle.std.specs.Prelude.{ℕ, List, Result, Ok, Err}
use Rattle.dr_session.specs.Desks.{DeskCall, DeskAnswer, Arrive, Next, Settle, Arrival, Upcoming}
use Rattle.dr_session.specs.Desks.{Settling, Due, First}
use Rattle.dr_desk.specs.declared.receipt.Call.TheVariants as call
use Rattle.dr_desk.specs.declared.receipt.Receipt.{Receipt}
use Rattle.dr_desk.specs.declared.receipt.Reply.TheVariants as reply
use Rattle.dr_desk.specs.Receipts.{LeavesReceipts, Notes, arrival_of}

-- An accepted arrival and an accepted settling are noted, with just their reply; all other calls
-- leave the pass. Another kind of answer can't come.
abbrev pub PassStep : DeskCall → DeskAnswer → ℕ → List Receipt → ℕ → List Receipt → Type 0
PassStep (Arrive caller item) (Arrival (Ok arrived)) count receipts now kept =
    Notes (arrival_of caller item) (reply.Arrived arrived) count receipts now kept
PassStep (Arrive caller item) (Arrival (Err why)) count receipts now kept =
    LeavesReceipts count receipts now kept
PassStep (Next dest at) (Upcoming due) count receipts now kept =
    LeavesReceipts count receipts now kept
PassStep (Due dest at) (First found) count receipts now kept =
    LeavesReceipts count receipts now kept
PassStep (Settle uid dest outcome at) (Settling (Ok done)) count receipts now kept =
    Notes (call.Settling uid dest outcome at) reply.Done count receipts now kept
PassStep (Settle uid dest outcome at) (Settling (Err why)) count receipts now kept =
    LeavesReceipts count receipts now kept
PassStep asked answer count receipts now kept = ⊥
