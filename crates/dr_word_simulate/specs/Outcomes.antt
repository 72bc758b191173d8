-- What comes of a script that is played in a world of a plan's nodes.
use Rattle.std.specs.Prelude.{◌≡◌, ℕ, List, [], Contains}
use Rattle.std.specs.List.{AllZip}
use Rattle.dr_base.specs.Texts.{Text}
use Rattle.dr_plan_model.specs.Networks.{Network}
use Rattle.dr_plan_sound.specs.declared.certificate.Certificate.{Certificate}
use Rattle.dr_run_open.specs.declared.status.Status.{Status}
use Rattle.dr_run_open.specs.declared.status.Status.TheVariants.{Success, Refused, InputOutput}
use Rattle.dr_run_open.specs.declared.status.Status.TheVariants.{Memory as OutOfMemory}
use Rattle.dr_world.specs.declared.order.WorldOrder.{WorldOrder}
use Rattle.dr_world_script.specs.Laws.{IsLineOf}
use Rattle.dr_world_script.specs.Scripts.{IsFirstWrong, IsLineAt, IsScriptOf}
use Rattle.dr_world_script.specs.declared.act.Act.{Act}
use Rattle.dr_world_script.specs.declared.act.Act.TheVariants.{Adopt, Step}
use Rattle.dr_world_script.specs.declared.step.Step.TheVariants.{RefuseStore}
use Rattle.dr_word_simulate.specs.Orders.{IsOrderOf, IsUnsealedBy, StopsAt}
use Rattle.dr_word_simulate.specs.Reported.{IsReportAfter}
use Rattle.dr_word_simulate.specs.declared.orders.ActFault.{ActFault}
use Rattle.dr_word_simulate.specs.declared.orders.ActFault.TheVariants as stop
use Rattle.dr_word_simulate.specs.declared.outcome.PlayOutcome.{PlayOutcome}
use Rattle.dr_word_simulate.specs.declared.outcome.PlayOutcome.TheVariants.{Report, NoScript}
use Rattle.dr_word_simulate.specs.declared.outcome.PlayOutcome.TheVariants.{Unsealed, Unread}
use Rattle.dr_word_simulate.specs.declared.outcome.PlayOutcome.TheVariants.{HalfAdopted, Memory}

-- The text is a script, its files have the plans that it names, and this is the report of the nodes
-- of a world to which it leads from the beginning of the plan's world; the headline's claims hold
-- of that world, where no other product writes in the script, and of our nodes, where it fits them.
pub record IsSimulated (Holds : Text → Text → Type 0) (plan : Network) (certificate : Certificate)
    (text report : Text) : Type 0 where
  pub acts : List Act
  pub told : IsScriptOf text acts
  pub orders : List WorldOrder
  pub ordered : AllZip (IsOrderOf Holds) acts orders
  pub reported : IsReportAfter plan certificate orders report

-- the n-th line, counted from 1, is that of a change to a plan whose files have no sound plan with
-- its certificate
abbrev pub IsUnsealedAt : (Text → Text → Type 0) → Text → ℕ → Type 0
IsUnsealedAt Holds text n =
    (plan certificate : Text)
    × IsLineOf text n (Adopt plan certificate)
    × IsUnsealedBy (Holds plan) (Holds certificate)

-- the text is a script; by what stands at that place, counted from 0, nothing can be done, for this
-- cause, and by all before it something can
abbrev pub IsStopped : (Text → Text → Type 0) → Text → ℕ → ActFault → Type 0
IsStopped Holds text place why =
    (acts : List Act) × IsScriptOf text acts × StopsAt Holds acts place why

-- the text is a script that has a change of plan, and in which a store is told to refuse
abbrev pub HasChangeIn : Text → Type 0
HasChangeIn text =
    (acts : List Act) × IsScriptOf text acts
    × ((plan certificate : Text) × Contains acts (Adopt plan certificate))
    × ((node : Text) × Contains acts (Step (RefuseStore node)))

-- What may come of a text. Want of memory may come of any. A file that isn't read is one of a line
-- of a script, the first by which nothing can be done, and so are files that have no sound plan. A
-- store fails in a change of plan alone, of a script that has one and tells a store to refuse.
abbrev pub IsOutcomeOf : (Text → Text → Type 0) → Network → Certificate → Text → PlayOutcome
    → Type 0
IsOutcomeOf Holds plan certificate text (Report report) =
    IsSimulated Holds plan certificate text report
IsOutcomeOf Holds plan certificate text (NoScript line) = IsFirstWrong text line
IsOutcomeOf Holds plan certificate text (Unsealed line) =
    IsUnsealedAt Holds text line
    × ((place : ℕ) × IsLineAt text place line × IsStopped Holds text place stop.Unsealed)
IsOutcomeOf Holds plan certificate text (Unread path error) =
    (place : ℕ) × IsStopped Holds text place (stop.Unread path error)
IsOutcomeOf Holds plan certificate text HalfAdopted = HasChangeIn text
IsOutcomeOf Holds plan certificate text Memory = Unit {0}

-- why a script isn't done, by the place of what can't be
abbrev pub StopsAs : Text → ℕ → ActFault → PlayOutcome → Type 0
StopsAs text place stop.Unsealed (Unsealed line) = IsLineAt text place line
StopsAs text place (stop.Unread path error) (Unread named why) = (named ≡ path) × (why ≡ error)
StopsAs text place fault Memory = Unit {0}
StopsAs text place fault outcome = ⊥

-- what is printed: the report, else nothing
abbrev pub printed_for : PlayOutcome → Text
printed_for (Report report) = report
printed_for (NoScript line) = []
printed_for (Unsealed line) = []
printed_for (Unread path error) = []
printed_for HalfAdopted = []
printed_for Memory = []

-- the status with which the program ends for an outcome
abbrev pub status_for : PlayOutcome → Status
status_for (Report report) = Success
status_for (NoScript line) = Refused
status_for (Unsealed line) = Refused
status_for (Unread path error) = InputOutput
status_for HalfAdopted = InputOutput
status_for Memory = OutOfMemory
