-- What a run of the program on the text of a plan does.
use Rattle.std.specs.Prelude.{◌≡◌, ◌⊎◌, ℕ, List, Ok}
use Rattle.std.specs.declared.option.Option.{Option}
use Rattle.std.specs.Io.KnownBytes.{Appends}
use Rattle.dr_base.specs.Texts.{Text}
use Rattle.dr_run_open.specs.declared.answer.PlanAnswer.{PlanAnswer}
use Rattle.dr_run_open.specs.declared.status.Status.{Status}
use Rattle.dr_plan_model.specs.Networks.{Network}
use Rattle.dr_plan.specs.Reading.{Reads}
use Rattle.dr_word_check.specs.declared.verify.Verification.{Verification}
use Rattle.dr_run_open.specs.Answers.{Refuses, printed_for, status_for}
use Rattle.dr_word_check.specs.Answers.{IsAnswerTo}
use Rattle.dr_word_check.specs.Verdicts.{IsVerdictOn, verdict_line, verdict_status}

-- a run of `check`: an answer to the text is printed after what the output held, and the program
-- ends with its status
pub record Answers (text : Text) (old new : Option (List ℕ)) (status : Status) : Type 0 where
  pub answer : PlanAnswer
  pub right : IsAnswerTo text answer
  pub printed : Appends old new (printed_for answer)
  pub ends : status ≡ status_for answer

-- a run of `verify` on a text that has one: the verdict on the second text, of which `Holds` holds,
-- is printed
pub record JudgesText (Holds : Text → Type 0) (text : Text) (old new : Option (List ℕ))
    (status : Status) : Type 0 where
  pub plan : Network
  pub reads : Reads text (Ok plan)
  pub second : Text
  pub held : Holds second
  pub verdict : Verification
  pub right : IsVerdictOn plan second verdict
  pub printed : Appends old new (verdict_line verdict)
  pub ends : status ≡ verdict_status verdict

-- a run of `verify`: the first text has no plan, or the verdict on the second text is printed
abbrev pub Verifies : (Text → Type 0) → Text → Option (List ℕ) → Option (List ℕ) → Status → Type 0
Verifies Holds text old new status =
    Refuses text old new status ⊎ JudgesText Holds text old new status
