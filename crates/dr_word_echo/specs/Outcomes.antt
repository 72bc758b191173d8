-- What comes of an echo from one node of a plan to another.
use Rattle.std.specs.Prelude.{◌≡◌, ◌⊎◌, ◌==◌, ℕ, Bool, List, [], None, Some, Result, Ok, Err}
use Rattle.std.specs.Prelude.{if◌then◌else◌}
use Rattle.std.specs.declared.io.Error.{Error}
use Rattle.std.specs.declared.option.Option.{Option}
use Rattle.dr_base.specs.Texts.{Text}
use Rattle.dr_plan_model.specs.Listening.{address_of}
use Rattle.dr_plan_model.specs.Networks.{Network}
use Rattle.dr_plan_model.specs.Plans.{IsTheNode, NamesNoNode}
use Rattle.dr_plan_model.specs.declared.plan.Node.{Node}
use Rattle.dr_run_open.specs.declared.status.Status.{Status}
use Rattle.dr_run_open.specs.declared.status.Status.TheVariants.{Success, Refused, InputOutput}
use Rattle.dr_run_open.specs.declared.status.Status.TheVariants.{Memory as OutOfMemory}
use Rattle.dr_session.specs.Links.{EchoesAs}
use Rattle.dr_session.specs.declared.ends.Heard.{Heard}
use Rattle.dr_session.specs.declared.echo_desk.Echoed.{Echoed}
use Rattle.dr_session.specs.declared.sessions.SessionFault.{SessionFault}
use Rattle.dr_word_echo.specs.Lines.{echo_line}
use Rattle.dr_word_echo.specs.declared.outcome.EchoOutcome.{EchoOutcome}
use Rattle.dr_word_echo.specs.declared.outcome.EchoOutcome.TheVariants.{Answered, NoNode, Unreached}
use Rattle.dr_word_echo.specs.declared.outcome.EchoOutcome.TheVariants.{Failed, Memory, Nowhere}

-- the outcome tells of a session of which `Came` says what it came to; want of memory may end any
abbrev pub TellsOf : (Result Echoed SessionFault → Type 0) → EchoOutcome → Type 0
TellsOf Came (Answered echoed) = Came (Ok echoed)
TellsOf Came (Failed why) = Came (Err why)
TellsOf Came Memory = Unit {0}
TellsOf Came NoNode = ⊥
TellsOf Came Nowhere = ⊥
TellsOf Came (Unreached error) = ⊥

-- both names are nodes of the plan, and this holds of the address by which the second is reached
abbrev pub Between : Network → Text → Text → (Text → Type 0) → Type 0
Between plan caller called HoldsAt =
    (from_node to_node : Node)
    × IsTheNode plan caller from_node
    × IsTheNode plan called to_node
    × ((address : Text) × (address_of to_node.listens ≡ Some address) × HoldsAt address)

module _ {L : Type 0} (connects : Text → Result L Error → Type 0) (hears : L → Heard → L → Type 0)
    (sends : L → List ℕ → Bool → L → Type 0) (closes : L → L → Type 0) (tells : ℕ → Type 0) where
  -- an echo from the one name to the other, over a link that leads to the address, comes to this
  abbrev pub ComesTo : Text → Text → Text → Result Echoed SessionFault → Type 0
  ComesTo caller called address came =
      (link after : L) × connects address (Ok link)
      × EchoesAs hears sends closes tells caller called came link after

  -- the same as an outcome; or a connect to the address came to the error
  abbrev pub IsAskedAt : Text → Text → Text → EchoOutcome → Type 0
  IsAskedAt caller called address (Unreached error) = connects address (Err error)
  IsAskedAt caller called address outcome = TellsOf (ComesTo caller called address) outcome

  -- an echo between two nodes of the plan, over a link to the second one's address, comes to this
  abbrev pub ComesBetween : Network → Text → Text → Result Echoed SessionFault → Type 0
  ComesBetween plan caller called came =
      Between plan caller called (λ address. ComesTo caller called address came)

  -- What may come of an echo from one name to another, for a plan: one of the two is no node, the
  -- second one listens nowhere, or an echo or a connect to its address comes to it; want of memory
  -- may come of any.
  abbrev pub IsOutcomeOf : Network → Text → Text → EchoOutcome → Type 0
  IsOutcomeOf plan caller called NoNode = NamesNoNode plan caller ⊎ NamesNoNode plan called
  IsOutcomeOf plan caller called Nowhere =
      (from_node to_node : Node)
      × IsTheNode plan caller from_node
      × IsTheNode plan called to_node
      × (address_of to_node.listens ≡ None)
  IsOutcomeOf plan caller called (Unreached error) =
      Between plan caller called (λ address. connects address (Err error))
  IsOutcomeOf plan caller called outcome = TellsOf (ComesBetween plan caller called) outcome

-- what is printed: the line of an echo, else nothing
abbrev pub printed_for : EchoOutcome → Text
printed_for (Answered echoed) = echo_line echoed
printed_for NoNode = []
printed_for Nowhere = []
printed_for (Unreached error) = []
printed_for (Failed why) = []
printed_for Memory = []

-- success for the status 0000H alone
abbrev pub status_by : Option ℕ → Status
status_by (Some status) = if status == 0 then Success else Refused
status_by None = Refused

-- the status with which the program ends for an outcome
abbrev pub status_for : EchoOutcome → Status
status_for (Answered echoed) = status_by echoed.status
status_for NoNode = Refused
status_for Nowhere = Refused
status_for (Unreached error) = InputOutput
status_for (Failed why) = InputOutput
status_for Memory = OutOfMemory
