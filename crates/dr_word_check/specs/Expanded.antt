-- What a run of `expand` on the text of a plan does.
use Rattle.std.specs.Prelude.{◌≡◌, ◌⊎◌, ℕ, List, [], Result, Ok, Err}
use Rattle.std.specs.declared.option.Option.{Option}
use Rattle.std.specs.Io.KnownBytes.{Appends}
use Rattle.dr_base.specs.Texts.{Text}
use Rattle.dr_plan.specs.Reading.{IsReadFor}
use Rattle.dr_plan_expand.specs.Expanding.{Expands}
use Rattle.dr_run_open.specs.declared.answer.PlanAnswer.{PlanAnswer}
use Rattle.dr_run_open.specs.declared.answer.PlanAnswer.TheVariants.{Memory}
use Rattle.dr_run_open.specs.declared.status.Status.{Status}
use Rattle.dr_run_open.specs.declared.status.Status.TheVariants.{Success}
use Rattle.dr_run_open.specs.Answers.{IsNoPlan, status_for}

-- what is found to be read for a text: what it expands to, or itself where its format isn't 3; or
-- the answer that it has none, which for a text that expands can only be want of memory
abbrev pub Finds : Text → Result Text PlanAnswer → Type 0
Finds text (Ok core) = IsReadFor text core
Finds text (Err answer) =
    IsNoPlan text answer × ((core : Text) → Expands text core → answer ≡ Memory)

-- the text that is read for the text is printed
pub record Prints (text : Text) (old new : Option (List ℕ)) (status : Status) : Type 0 where
  pub core : Text
  pub is_for : IsReadFor text core
  pub printed : Appends old new core
  pub ends : status ≡ Success

-- the text's fault is told, and nothing is printed
pub record Withholds (text : Text) (old new : Option (List ℕ)) (status : Status) : Type 0 where
  pub answer : PlanAnswer
  pub finds : Finds text (Err answer)
  pub nothing : Appends old new []
  pub ends : status ≡ status_for answer

-- a run of `expand`
abbrev pub Expanded : Text → Option (List ℕ) → Option (List ℕ) → Status → Type 0
Expanded text old new status = Prints text old new status ⊎ Withholds text old new status
