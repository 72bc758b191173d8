use Rattle.dr_plan_expand.proofs.Bounded.{bounded}
use Rattle.dr_plan_expand.proofs.laws.a_bounded_plan_means_a_bounded_one.Goals as goal

pub returns : goal.returns
returns c = bounded
