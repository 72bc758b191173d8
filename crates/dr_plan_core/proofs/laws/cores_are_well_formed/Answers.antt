use Rattle.dr_plan_core.proofs.PlanForm.{well_formed}
use Rattle.dr_plan_core.proofs.laws.cores_are_well_formed.Goals as goal

pub returns : goal.returns
returns c = λ text plan reads. well_formed plan.format plan.nodes plan.flows reads.0.0 reads.0.2 reads.1
