use Rattle.dr_plan.proofs.AsItStands.{as_it_stands}
use Rattle.dr_plan.proofs.laws.cores_are_read.Goals as goal

pub returns : goal.returns
returns c = as_it_stands
