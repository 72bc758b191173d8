-- What errands ask of a node that runs and tell it, and what they come to.
use Rattle.std.specs.Prelude.{◌≡◌, ◌⊎◌, ℕ, List, codes, Result, Ok, Err, IsErr}
use Rattle.std.specs.Borrow.{Bor}
use Rattle.dr_base.specs.Texts.{Text}
use Rattle.dr_run_ask.specs.Calls.{copy_form, dest_form, reason_form, row_form, uid_form}
use Rattle.dr_run_ask.specs.Conversations.{OnlyReads, Tells}
use Rattle.dr_run_ask.specs.declared.answer.HttpAnswer.{HttpAnswer}
use Rattle.dr_run_ask.specs.declared.call.HttpCall.{HttpCall}
use Rattle.dr_run_ask.specs.declared.call.HttpCall.TheVariants as calls
use Rattle.dr_run_ask.specs.declared.fault.AskFault.{AskFault}
use Rattle.dr_run_ask.specs.declared.fault.AskFault.TheVariants as faults
use Rattle.dr_run_open.specs.declared.status.Status.{Status as Ending}
use Rattle.dr_run_open.specs.declared.status.Status.TheVariants as ends
use Rattle.dr_word_at.specs.declared.doing.ErrandOutcome.{ErrandOutcome}
use Rattle.dr_word_line.specs.declared.words.Errand.{Errand}
use Rattle.dr_word_line.specs.declared.words.Errand.TheVariants as errands

-- the exit status: 3 where no answer came, 1 where the node or its ledger refuses, but for a store
-- or a copy's file that failed, and for want of memory; as of a ledger in a file
abbrev pub status_of : AskFault → Ending
status_of faults.NoConnection = ends.InputOutput
status_of faults.NoAnswer = ends.InputOutput
status_of faults.NoNodesAnswer = ends.InputOutput
status_of faults.Shrunk = ends.Refused
status_of faults.OtherNode = ends.Refused
status_of faults.OtherPlan = ends.Refused
status_of faults.NoRequest = ends.Refused
status_of faults.Host = ends.Refused
status_of faults.Unknown = ends.Refused
status_of faults.Closed = ends.Refused
status_of faults.Token = ends.Refused
status_of faults.NoHop = ends.Refused
status_of faults.NotHeld = ends.Refused
status_of faults.NotOver = ends.Refused
status_of faults.OwnFile = ends.Refused
status_of faults.IsThere = ends.Refused
status_of faults.NoPath = ends.Refused
status_of faults.Busy = ends.Refused
status_of faults.GivenUp = ends.Refused
status_of faults.NoCopy = ends.InputOutput
status_of faults.DataFile = ends.Refused
status_of faults.Store = ends.InputOutput
status_of faults.Memory = ends.Memory

module _ {S : Type 0} (answers : S → HttpCall → Result HttpAnswer AskFault → S → Type 0) where
  -- an errand that tells the node this: want of memory may come before anything was asked; where it
  -- is done, this line is printed
  abbrev pub Does : Text → Text → HttpCall → Text → S → Result ErrandOutcome AskFault → S → Type 0
  Does name digest call line old (Ok outcome) new =
      Tells answers name digest call old (Ok tt) new
      × (outcome.text ≡ line)
      × (outcome.status ≡ ends.Success)
  Does name digest call line old (Err fault) new =
      (new ≡ old) ⊎ Tells answers name digest call old (Err fault) new

  -- the same with this form
  abbrev pub Acts : Text → Text → Text
      → (Bor (List ℕ) → HttpCall)
      → Text → S
      → Result ErrandOutcome AskFault
      → S → Type 0
  Acts name digest form call line old came new =
      (IsErr came × (new ≡ old))
      ⊎ ((written : Bor (List ℕ)) × (written.now ≡ form)
      × Does name digest (call written) line old came new)

  -- What a node is asked and told by an errand: a word that reads asks alone.
  abbrev pub Runs : Text → Text → Errand → S → Result ErrandOutcome AskFault → S → Type 0
  Runs name digest errands.List old came new = OnlyReads answers old new
  Runs name digest errands.Summary old came new = OnlyReads answers old new
  Runs name digest errands.StrictSummary old came new = OnlyReads answers old new
  Runs name digest (errands.Requeue uid dest) old came new =
      Acts name digest (row_form uid.now dest.now) calls.Requeue (codes "requeued\n") old came new
  Runs name digest (errands.RequeueAll dest) old came new =
      Acts name digest (dest_form dest.now) calls.Requeue (codes "requeued\n") old came new
  Runs name digest (errands.GiveUp uid dest) old came new =
      Acts name digest (row_form uid.now dest.now) calls.GiveUp (codes "dropped\n") old came new
  Runs name digest (errands.GiveUpFor uid dest reason) old came new = Acts name digest
      (reason_form uid.now dest.now reason.now) calls.GiveUp (codes "dropped\n") old came new
  Runs name digest (errands.Visit dest) old came new =
      Acts name digest (dest_form dest.now) calls.Visit (codes "visited\n") old came new
  Runs name digest (errands.Backup copy) old came new =
      Acts name digest (copy_form copy.now) calls.Backup (codes "copied\n") old came new
  Runs name digest (errands.Forget uid) old came new =
      Acts name digest (uid_form uid.now) calls.Forget (codes "forgotten\n") old came new
  Runs name digest errands.Stop old came new =
      Does name digest calls.Stop (codes "stopped\n") old came new
