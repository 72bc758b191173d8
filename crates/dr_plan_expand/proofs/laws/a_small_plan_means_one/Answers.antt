use Rattle.dr_plan_expand.proofs.SmallPlan.{small_means}
use Rattle.dr_plan_expand.proofs.laws.a_small_plan_means_one.Goals as goal

pub returns : goal.returns
returns c = small_means
