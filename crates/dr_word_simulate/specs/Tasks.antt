-- What is done of the tasks that need no network.
use Rattle.std.specs.Prelude.{ℕ, List}
use Rattle.std.specs.declared.option.Option.{Option}
use Rattle.dr_base.specs.Texts.{Text}
use Rattle.dr_run_open.specs.declared.status.Status.{Status}
use Rattle.dr_word_line.specs.declared.words.Task.{Task}
use Rattle.dr_word_line.specs.declared.words.Task.TheVariants.{Simulate}
use Rattle.dr_word_route.specs.Tasks.{DoesOnPlans}
use Rattle.dr_word_simulate.specs.Runs.{Simulates}

-- those about plans, and the play of a script: by the task what a run that came to its end prints,
-- and with which status it ends
abbrev pub DoesOffline : (Text → Text → Type 0) → Option Text → Task → Option (List ℕ)
    → Option (List ℕ) → Status → Type 0
DoesOffline Holds input (Simulate plan certificate script) old new status =
    (text : Text) × Holds plan.now text
    × Simulates Holds certificate.now script.now text old new status
DoesOffline Holds input other old new status = DoesOnPlans Holds input other old new status
