use Rattle.dr_plan_core.proofs.PlanForm.{well_formed}
use Rattle.dr_plan.proofs.laws.the_plan_of_a_text_is_well_formed.Goals as goal

pub returns : goal.returns
returns c = λ text plan reads. well_formed plan.format plan.nodes plan.flows reads.reads.0.0 reads.reads.0.2 reads.reads.1
