-- What a run of `echo` does.
use Rattle.std.specs.Prelude.{◌≡◌, ◌⊎◌, ℕ, Bool, List, Result, Ok}
use Rattle.std.specs.declared.io.Error.{Error}
use Rattle.std.specs.declared.option.Option.{Option}
use Rattle.std.specs.Io.KnownBytes.{Appends}
use Rattle.dr_base.specs.Texts.{Text}
use Rattle.dr_plan_model.specs.Networks.{Network}
use Rattle.dr_plan.specs.Reading.{Reads}
use Rattle.dr_run_open.specs.Answers.{Refuses}
use Rattle.dr_run_open.specs.declared.status.Status.{Status}
use Rattle.dr_session.specs.declared.ends.Heard.{Heard}
use Rattle.dr_word_echo.specs.Outcomes.{IsOutcomeOf, printed_for, status_for}
use Rattle.dr_word_echo.specs.declared.outcome.EchoOutcome.{EchoOutcome}

-- a run for a text that has a plan: an outcome, of which `MayCome` says that it may come of the
-- plan, is printed after what the output held, and the program ends with its status
pub record PrintsOutcome (MayCome : Network → EchoOutcome → Type 0) (text : Text)
    (old new : Option (List ℕ)) (status : Status) : Type 0 where
  pub plan : Network
  pub reads : Reads text (Ok plan)
  pub outcome : EchoOutcome
  pub right : MayCome plan outcome
  pub printed : Appends old new (printed_for outcome)
  pub ends : status ≡ status_for outcome

-- a run of `echo` from the one name to the other: the text has no plan, or what comes of the echo
-- is printed
abbrev pub Echoes : {L : Type 0} → (Text → Result L Error → Type 0) → (L → Heard → L → Type 0)
    → (L → List ℕ → Bool → L → Type 0)
    → (L → L → Type 0) → (ℕ → Type 0) → Text → Text → Text → Option (List ℕ) → Option (List ℕ)
    → Status → Type 0
Echoes connects hears sends closes tells caller called text old new status =
    Refuses text old new status
    ⊎ PrintsOutcome
    (λ plan outcome. IsOutcomeOf connects hears sends closes tells plan caller called outcome) text
    old new status
