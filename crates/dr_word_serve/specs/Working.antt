-- What a node is asked to do with its ledger, and what that comes to.
use Rattle.std.specs.Prelude.{ℕ, List, Result}
use Rattle.std.specs.declared.option.Option.{Option}
use Rattle.dr_base.specs.Texts.{Text}
use Rattle.dr_run_open.specs.declared.status.Status.{Status}
use Rattle.dr_word_line.specs.declared.words.Duty.{Duty}
use Rattle.dr_word_line.specs.declared.words.Duty.TheVariants.{List as ToList, ListLong, Summary}
use Rattle.dr_word_line.specs.declared.words.Duty.TheVariants.{Requeue}
use Rattle.dr_word_line.specs.declared.words.Duty.TheVariants.{RequeueAll, GiveUp, Forget, Make}
use Rattle.dr_word_line.specs.declared.words.Duty.TheVariants.{Send, Serve, MakeWithData}
use Rattle.dr_run_files.specs.declared.node.NodeFiles.{NodeFiles}
use Rattle.dr_ledger.specs.Books.{Book}
use Rattle.dr_run_open.specs.Ends.{Ends}
use Rattle.dr_word_list.specs.Requeuings.{RequeuedAll}
use Rattle.dr_word_list.specs.Summaries.{Summarizes}
use Rattle.dr_word_list.specs.Works.{Forgot, GaveUp, Lists, ListsLong, Made, Requeued}
use Rattle.dr_run_open.specs.declared.halt.Halt.{Halt}
use Rattle.dr_run_open.specs.declared.hops.NextHop.{NextHop}
use Rattle.dr_run_serve.specs.declared.tallied.OwnPort.{OwnPort}
use Rattle.dr_site.specs.Parts.{Part}
use Rattle.dr_word_serve.specs.Sending.{Sends}
use Rattle.dr_word_serve.specs.Serving.{Serves}

module _ {L : Type 0} (holds : List ℕ → Text → Type 0) (opens : List ℕ → L → Type 0)
    (site_of : L → Part) (book : L → Book) (stands : L → Type 0)
    (VisitsAll : Part → List NextHop → OwnPort L → OwnPort L → Type 0) (tells : ℕ → Type 0)
    (given : NodeFiles) where
  -- The duty is done at the node, whose plan, certificate and ledger these files hold: what the
  -- output had before and after, and the exit status.
  abbrev pub Works : Duty → Option Text → Option Text → Status → Type 0
  Works Make old new status =
      (came : Result Text Halt)
      × Made (holds given.plan.now) (holds given.certificate.now) (opens given.ledger.now) site_of
      book stands given.node.now came
      × Ends came old new status
  Works MakeWithData old new status =
      (came : Result Text Halt)
      × Made (holds given.plan.now) (holds given.certificate.now) (opens given.ledger.now) site_of
      book stands given.node.now came
      × Ends came old new status
  Works ToList old new status =
      (came : Result Text Halt)
      × Lists (holds given.plan.now) (holds given.certificate.now) (opens given.ledger.now) site_of
      book stands given.node.now came
      × Ends came old new status
  Works ListLong old new status =
      (came : Result Text Halt)
      × ListsLong (holds given.plan.now) (holds given.certificate.now) (opens given.ledger.now)
      site_of book stands given.node.now came
      × Ends came old new status
  Works Summary old new status =
      (came : Result Text Halt)
      × Summarizes (holds given.plan.now) (holds given.certificate.now) (opens given.ledger.now)
      site_of book stands given.node.now came
      × Ends came old new status
  Works (Requeue uid dest) old new status =
      (came : Result Text Halt)
      × Requeued (holds given.plan.now) (holds given.certificate.now) (opens given.ledger.now)
      site_of book stands given.node.now uid.now dest.now came
      × Ends came old new status
  Works (RequeueAll dest) old new status =
      (came : Result Text Halt)
      × RequeuedAll (holds given.plan.now) (holds given.certificate.now) (opens given.ledger.now)
      site_of book stands given.node.now dest.now came
      × Ends came old new status
  Works (GiveUp uid dest) old new status =
      (now : ℕ) × (came : Result Text Halt)
      × tells now
      × GaveUp (holds given.plan.now) (holds given.certificate.now) (opens given.ledger.now)
      site_of book stands given.node.now uid.now dest.now now came
      × Ends came old new status
  Works (Forget uid) old new status =
      (came : Result Text Halt)
      × Forgot (holds given.plan.now) (holds given.certificate.now) (opens given.ledger.now)
      site_of book stands given.node.now uid.now came
      × Ends came old new status
  Works (Send file) old new status =
      (came : Result Text Halt)
      × (mid : Option Text)
      × Sends (holds given.plan.now) (holds given.certificate.now) (holds file.now)
      (opens given.ledger.now) site_of book stands VisitsAll given.node.now came old mid
      × Ends came mid new status
  Works (Serve serving) old new status =
      (came : Result Text Halt)
      × Serves (holds given.plan.now) (holds given.certificate.now) (opens given.ledger.now) site_of
      book stands given.node.now came
      × Ends came old new status
