-- What the program answers to the text of a plan.
use Rattle.std.specs.Prelude.{◌≡◌, ◌≢◌, Ok, Err}
use Rattle.dr_base.specs.Texts.{Text}
use Rattle.dr_plan_model.specs.Networks.{Network}
use Rattle.dr_plan.specs.Reading.{Reads}
use Rattle.dr_plan_core.specs.declared.fault.PlanFault.TheVariants.{Memory as NoMemory}
use Rattle.dr_check.specs.declared.fault.Fault.{Fault}
use Rattle.dr_check.specs.Answering.{Judges}
use Rattle.dr_check.specs.Shown.{IsTooLarge}
use Rattle.dr_check.specs.declared.verdict.Verdict.TheVariants.{No}
use Rattle.dr_certify.specs.Certified.{HasCertificate}
use Rattle.dr_word_check.specs.Faults.{no_line}
use Rattle.dr_run_open.specs.declared.answer.PlanAnswer.{PlanAnswer}
use Rattle.dr_run_open.specs.declared.answer.PlanAnswer.TheVariants.{Sound, Unsound, NoPlan}
use Rattle.dr_run_open.specs.declared.answer.PlanAnswer.TheVariants.{TooLarge, Memory}

-- the text writes a sound plan, and this is the text of the plan's certificate
pub record IsCertifiedText (text output : Text) : Type 0 where
  pub plan : Network
  pub reads : Reads text (Ok plan)
  pub has : HasCertificate plan output

-- the text writes a plan of which this fault is named, the first of those that show themselves, and
-- this is the fault's line
pub record IsRefuted (text output : Text) : Type 0 where
  pub plan : Network
  pub fault : Fault
  pub reads : Reads text (Ok plan)
  pub judged : Judges plan (No fault)
  pub printed : output ≡ no_line fault

-- the answer to a plan that has this fault: the fault's line, with words for people about it, or
-- want of memory
abbrev pub IsLineOf : Fault → PlanAnswer → Type 0
IsLineOf fault (Unsound printed why) = printed ≡ no_line fault
IsLineOf fault Memory = Unit {0}
IsLineOf fault (Sound printed) = ⊥
IsLineOf fault (NoPlan refused place) = ⊥
IsLineOf fault TooLarge = ⊥

-- what `check` may answer to a text; want of memory may be answered to any
abbrev pub IsAnswerTo : Text → PlanAnswer → Type 0
IsAnswerTo text (Sound printed) = IsCertifiedText text printed
IsAnswerTo text (Unsound printed why) = IsRefuted text printed
IsAnswerTo text (NoPlan fault place) = Reads text (Err fault) × (fault ≢ NoMemory)
IsAnswerTo text TooLarge = (plan : Network) × Reads text (Ok plan) × IsTooLarge plan
IsAnswerTo text Memory = Unit {0}
