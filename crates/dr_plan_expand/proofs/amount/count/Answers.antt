use Rattle.dr_plan_expand.proofs.Summed.{listed_left, listed_many}
use Rattle.dr_plan_expand.proofs.amount.count.Goals as goal

pub returns-in-Some-clause-is : goal.returns-in-Some-clause-is
returns-in-Some-clause-is g c = listed_left _ c.in-Some.left c.in-Some.ensures

pub returns-in-None-clause-is : goal.returns-in-None-clause-is
returns-in-None-clause-is g c = listed_many _ c.in-None.ensures
