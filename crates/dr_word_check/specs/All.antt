-- A run of `check --all` on the text of a plan.
use Rattle.std.specs.Prelude.{◌≡◌, ◌≢◌, ◌⊎◌, ℕ, List, [], Ok, flat_map}
use Rattle.std.specs.declared.option.Option.{Option}
use Rattle.std.specs.Io.KnownBytes.{Appends}
use Rattle.dr_base.specs.Texts.{Text}
use Rattle.dr_plan_model.specs.Networks.{Network}
use Rattle.dr_plan.specs.Reading.{Reads}
use Rattle.dr_check.specs.declared.fault.Fault.{Fault}
use Rattle.dr_check.specs.AllFaults.{AreAllFaults}
use Rattle.dr_run_open.specs.declared.status.Status.{Status}
use Rattle.dr_run_open.specs.declared.status.Status.TheVariants.{Refused}
use Rattle.dr_word_check.specs.declared.all.FaultyPlan.{FaultyPlan}
use Rattle.dr_word_check.specs.Faults.{no_line}
use Rattle.dr_word_check.specs.Runs.{Answers}

-- the text writes the plan, which has these faults
abbrev pub HasFaults : Text → FaultyPlan → Type 0
HasFaults text found =
    Reads text (Ok found.plan) × AreAllFaults found.plan found.faults × (found.faults ≢ [])

-- the text writes a plan that has faults; the lines of all of them are printed after what the
-- output held, and the program ends as where a plan is refused
pub record NamesAll (text : Text) (old new : Option (List ℕ)) (status : Status) : Type 0 where
  pub plan : Network
  pub faults : List Fault
  pub reads : Reads text (Ok plan)
  pub all : AreAllFaults plan faults
  pub some : faults ≢ []
  pub printed : Appends old new (flat_map no_line faults)
  pub ends : status ≡ Refused

-- all faults of the text's plan are named, or it is answered as `check` does: where it has none,
-- where the text is no plan, and where the faults can't be found
abbrev pub AnswersWithAll : Text → Option (List ℕ) → Option (List ℕ) → Status → Type 0
AnswersWithAll text old new status = NamesAll text old new status ⊎ Answers text old new status
