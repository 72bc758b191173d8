use Rattle.dr_plan_core.proofs.OneAnswer.{one_core_answer}
use Rattle.dr_plan_core.proofs.laws.a_core_has_one_answer.Goals as goal

pub returns : goal.returns
returns c = one_core_answer
