-- What is done of the tasks that are about the texts of plans and certificates.
use Rattle.std.specs.Prelude.{◌≡◌, ◌≢◌, ◌⊎◌, ℕ, List, IfSome}
use Rattle.std.specs.declared.option.Option.{Option}
use Rattle.dr_base.specs.Texts.{Text}
use Rattle.dr_run_open.specs.declared.status.Status.{Status}
use Rattle.dr_run_open.specs.declared.status.Status.TheVariants.{InputOutput, Memory, Usage}
use Rattle.dr_word_line.specs.declared.words.Task.{Task}
use Rattle.dr_word_line.specs.declared.words.Task.TheVariants as asks
use Rattle.dr_word_check.specs.All.{AnswersWithAll}
use Rattle.dr_word_check.specs.Expanded.{Expanded}
use Rattle.dr_word_check.specs.Runs.{Answers, Verifies}

-- the program ends so where the input or an output failed, a file wasn't read, or memory ran out
abbrev pub HasFailedStatus : Status → Type 0
HasFailedStatus status = (status ≡ InputOutput) ⊎ (status ≡ Memory)

-- A run that was asked for a task, and came to its end: by the task what it prints after what the
-- output held, and with which status it ends. `Holds` says of a path and a text that the file of
-- this path holds it; what is said of the input speaks of its bytes where they are known. Of other
-- tasks nothing is said.
abbrev pub DoesOnTexts : (Text → Text → Type 0) → Option Text → Task → Option (List ℕ)
    → Option (List ℕ) → Status → Type 0
DoesOnTexts Holds input asks.CheckInput old new status =
    (status ≢ Usage) × IfSome input (λ text. Answers text old new status)
DoesOnTexts Holds input (asks.CheckFile plan) old new status =
    (text : Text) × Holds plan.now text × Answers text old new status
DoesOnTexts Holds input asks.CheckAllOfInput old new status =
    IfSome input (λ text. AnswersWithAll text old new status)
DoesOnTexts Holds input (asks.CheckAllOfFile plan) old new status =
    (text : Text) × Holds plan.now text × AnswersWithAll text old new status
DoesOnTexts Holds input (asks.Expand plan) old new status =
    (text : Text) × Holds plan.now text × Expanded text old new status
DoesOnTexts Holds input (asks.Verify plan certificate) old new status =
    (text : Text) × Holds plan.now text × Verifies (Holds certificate.now) text old new status
DoesOnTexts Holds input other old new status = Unit {0}
