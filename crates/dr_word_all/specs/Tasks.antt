-- What the whole program does of a task.
use Rattle.std.specs.Prelude.{ℕ, Bool, List, [], Result, map as mapped}
use Rattle.std.specs.declared.io.Error.{Error}
use Rattle.std.specs.declared.option.Option.{Option}
use Rattle.dr_base.specs.Texts.{Text}
use Rattle.dr_ledger.specs.Books.{Book}
use Rattle.dr_ledger.specs.declared.fault.LedgerFault.{LedgerFault}
use Rattle.dr_run_open.specs.declared.status.Status.{Status}
use Rattle.dr_run_serve.specs.declared.tallied.OwnPort.{OwnPort}
use Rattle.dr_session.specs.Desks.{DeskCall, DeskAnswer}
use Rattle.dr_session.specs.declared.ends.Heard.{Heard}
use Rattle.dr_site.specs.Parts.{Part}
use Rattle.dr_word_adopt.specs.Endings.{AdoptsFiles}
use Rattle.dr_word_audit.specs.Endings.{EndsAs}
use Rattle.dr_word_adopt.specs.Names.{text_of}
use Rattle.dr_word_echo.specs.Runs.{Echoes}
use Rattle.dr_word_import.specs.Imports.{PrintsPlan}
use Rattle.dr_word_json.specs.Runs.{IsAsJson}
use Rattle.dr_word_line.specs.declared.words.Task.{Task}
use Rattle.dr_word_line.specs.declared.words.Task.TheVariants as asks
use Rattle.dr_word_rehearse.specs.Endings.{Rehearses}
use Rattle.dr_word_route.specs.Tasks.{DoesOnPlans}
use Rattle.dr_word_serve.specs.Sending.{VisitsBy}
use Rattle.dr_word_serve.specs.Working.{Works}
use Rattle.dr_word_simulate.specs.Tasks.{DoesOffline}

-- Of files (`holds`), ledgers (`opens`, `shows` and what a ledger is), a network (`connects` and
-- what its sockets do), a node's own calls on its ledger (`step`, `finds`), a clock and an input:
module _ {L K : Type 0} (holds : Text → Text → Type 0) (opens : Text → L → Type 0)
    (shows : Text → Bool → Type 0) (site_of : L → Part) (book : L → Book) (stands : L → Type 0)
    (connects : Text → Result K Error → Type 0) (hears : K → Heard → K → Type 0)
    (sends : K → List ℕ → Bool → K → Type 0) (closes : K → K → Type 0)
    (step : OwnPort L → DeskCall → DeskAnswer → OwnPort L → Type 0)
    (finds : OwnPort L → Text → ℕ → Result (Option Text) LedgerFault → OwnPort L → Type 0)
    (tells : ℕ → Type 0) (input : Option Text) where
  -- A run that was asked for a task, and came to its end: by the task what it prints after what the
  -- output held, what the ledgers have then, and with which status it ends. Of words at a node that
  -- runs, and of words that aren't known, nothing is said.
  abbrev pub DoesTask : Task → Option Text → Option Text → Status → Type 0
  DoesTask (asks.Echo plan caller called) old new status =
      (text : Text) × holds plan.now text
      × Echoes connects hears sends closes tells caller.now called.now text old new status
  DoesTask (asks.AtNode given duty) old new status =
      Works holds opens site_of book stands
      (VisitsBy connects hears sends closes step finds tells) tells given duty old new status
  DoesTask (asks.Adopt change) old new status =
      AdoptsFiles holds opens shows site_of book stands change [] old new status
  DoesTask (asks.AdoptAmong change others) old new status =
      AdoptsFiles holds opens shows site_of book stands change (mapped text_of others.items) old new
      status
  DoesTask (asks.Rehearse change others) old new status =
      Rehearses holds opens shows site_of book stands change (mapped text_of others.items) old new
      status
  DoesTask (asks.Import table) old new status = PrintsPlan old new
  DoesTask (asks.Audit given) old new status =
      EndsAs holds opens site_of book stands given [] old new status
  DoesTask (asks.AuditAmong given others) old new status =
      EndsAs holds opens site_of book stands given (mapped text_of others.items) old new status
  DoesTask asks.CheckInputAsJson old new status =
      IsAsJson (DoesOnPlans holds input asks.CheckInput) old new status
  DoesTask (asks.CheckFileAsJson plan) old new status =
      IsAsJson (DoesOnPlans holds input (asks.CheckFile plan)) old new status
  DoesTask (asks.QuestionAsJson plan certificate question) old new status =
      IsAsJson (DoesOnPlans holds input (asks.Question plan certificate question)) old new status
  DoesTask other old new status = DoesOffline holds input other old new status
