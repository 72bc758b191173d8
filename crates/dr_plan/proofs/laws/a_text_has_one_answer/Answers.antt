use Rattle.dr_plan.proofs.OneReading.{one_answer}
use Rattle.dr_plan.proofs.laws.a_text_has_one_answer.Goals as goal

pub returns : goal.returns
returns c = one_answer
