use Rattle.dr_plan_expand.proofs.SmallPlan.{spelled, own_node}
use Rattle.dr_plan_expand.proofs.laws.small_plans_are_spelled.Goals as goal

pub returns-clause-spelled : goal.returns-clause-spelled
returns-clause-spelled c = spelled

pub returns-clause-own : goal.returns-clause-own
returns-clause-own c = own_node
