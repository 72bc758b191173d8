-- What the program answers to the text of a plan: that to a text which is none, what is printed,
-- and the status.
use Rattle.std.specs.Prelude.{◌≡◌, ◌≢◌, ℕ, List, [], Err}
use Rattle.std.specs.declared.option.Option.{Option}
use Rattle.std.specs.Io.KnownBytes.{Appends}
use Rattle.dr_base.specs.Texts.{Text}
use Rattle.dr_plan.specs.Reading.{Reads}
use Rattle.dr_plan_core.specs.declared.fault.PlanFault.TheVariants.{Memory as NoMemory}
use Rattle.dr_run_open.specs.declared.answer.PlanAnswer.{PlanAnswer}
use Rattle.dr_run_open.specs.declared.answer.PlanAnswer.TheVariants.{Sound, Unsound, NoPlan}
use Rattle.dr_run_open.specs.declared.answer.PlanAnswer.TheVariants.{TooLarge, Memory}
use Rattle.dr_run_open.specs.declared.status.Status.{Status}
use Rattle.dr_run_open.specs.declared.status.Status.TheVariants.{Success, Refused}
use Rattle.dr_run_open.specs.declared.status.Status.TheVariants.{Memory as OutOfMemory}

-- the answer to a text that has no plan: its fault, with words for people about it, or want of
-- memory
abbrev pub IsNoPlan : Text → PlanAnswer → Type 0
IsNoPlan text (NoPlan fault place) = Reads text (Err fault) × (fault ≢ NoMemory)
IsNoPlan text Memory = Unit {0}
IsNoPlan text (Sound printed) = ⊥
IsNoPlan text (Unsound printed why) = ⊥
IsNoPlan text TooLarge = ⊥

-- what is printed for an answer to standard output: the certificate, or the line of a plan that
-- isn't sound; else nothing
abbrev pub printed_for : PlanAnswer → Text
printed_for (Sound printed) = printed
printed_for (Unsound printed why) = printed
printed_for (NoPlan fault place) = []
printed_for TooLarge = []
printed_for Memory = []

-- the status with which the program ends for an answer: success for a sound plan, else refused, or
-- out of memory
abbrev pub status_for : PlanAnswer → Status
status_for (Sound printed) = Success
status_for (Unsound printed why) = Refused
status_for (NoPlan fault place) = Refused
status_for TooLarge = Refused
status_for Memory = OutOfMemory

-- a run of a word on a text that has no plan: nothing is printed
pub record Refuses (text : Text) (old new : Option (List ℕ)) (status : Status) : Type 0 where
  pub answer : PlanAnswer
  pub right : IsNoPlan text answer
  pub nothing : Appends old new []
  pub ends : status ≡ status_for answer
