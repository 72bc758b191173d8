-- What is done of the tasks that are about plans alone.
use Rattle.std.specs.Prelude.{ℕ, List}
use Rattle.std.specs.declared.option.Option.{Option}
use Rattle.dr_base.specs.Texts.{Text}
use Rattle.dr_run_open.specs.declared.status.Status.{Status}
use Rattle.dr_word_check.specs.Tasks.{DoesOnTexts}
use Rattle.dr_word_line.specs.declared.words.Task.{Task}
use Rattle.dr_word_line.specs.declared.words.Task.TheVariants.{Question}
use Rattle.dr_word_route.specs.Runs.{AnswersQuestion}

-- the same for the program for plans, which answers questions too: by the task what a run that came
-- to its end prints, and with which status it ends
abbrev pub DoesOnPlans : (Text → Text → Type 0) → Option Text → Task → Option (List ℕ)
    → Option (List ℕ) → Status → Type 0
DoesOnPlans Holds input (Question plan certificate question) old new status =
    AnswersQuestion Holds plan certificate question old new status
DoesOnPlans Holds input other old new status = DoesOnTexts Holds input other old new status
