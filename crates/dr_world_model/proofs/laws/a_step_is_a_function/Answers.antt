use Rattle.dr_world_model.proofs.laws.a_step_is_a_function.Goals as goal
use Rattle.dr_world_model.proofs.OneStep.{step_is_a_function, adoption_is_a_function}

pub returns-clause-step : goal.returns-clause-step
returns-clause-step c = step_is_a_function

pub returns-clause-adoption : goal.returns-clause-adoption
returns-clause-adoption c = adoption_is_a_function
