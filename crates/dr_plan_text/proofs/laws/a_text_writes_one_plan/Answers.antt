use Rattle.dr_plan_text.proofs.OnePlan.{one_plan}
use Rattle.dr_plan_text.proofs.laws.a_text_writes_one_plan.Goals as goal

pub returns : goal.returns
returns c = one_plan
