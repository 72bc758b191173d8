-- The answer to a plan that isn't sound.
use Rattle.std.proofs.Common.{Ok}
use Rattle.dr_base.specs.Texts.{Text}
use Rattle.dr_plan_model.specs.Networks.{Network}
use Rattle.dr_plan.specs.Reading.{Reads}
use Rattle.dr_check.specs.declared.fault.Fault.{Fault}
use Rattle.dr_check.specs.Answering.{Judges}
use Rattle.dr_check.specs.declared.verdict.Verdict.TheVariants.{No}
use Rattle.dr_word_check.specs.Answers.{IsAnswerTo, IsLineOf}
use Rattle.dr_run_open.specs.declared.answer.PlanAnswer.{PlanAnswer}
use Rattle.dr_run_open.specs.declared.answer.PlanAnswer.TheVariants.{Sound, Unsound, NoPlan, TooLarge, Memory}

-- what is told of a shown fault is an answer to the text
pub refuted : (text : Text) (plan : Network) (fault : Fault) (answer : PlanAnswer) → Reads text (Ok plan) → Judges plan (No fault) → IsLineOf fault answer → IsAnswerTo text answer
refuted text plan fault (Unsound printed why) reads judged is = record { plan = plan; fault = fault; reads = reads; judged = judged; printed = is }
refuted text plan fault Memory reads judged is = tt
refuted text plan fault (Sound printed) reads judged is = absurd is
refuted text plan fault (NoPlan refused place) reads judged is = absurd is
refuted text plan fault TooLarge reads judged is = absurd is
