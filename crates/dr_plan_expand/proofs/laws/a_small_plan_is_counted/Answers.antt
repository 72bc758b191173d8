use Rattle.dr_plan_expand.proofs.SmallPlan.{counted}
use Rattle.dr_plan_expand.proofs.laws.a_small_plan_is_counted.Goals as goal

pub returns : goal.returns
returns c = counted
