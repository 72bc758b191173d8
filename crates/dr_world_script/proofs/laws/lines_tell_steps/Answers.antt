use Rattle.dr_world_script.proofs.Figures.{told, told_none}
use Rattle.dr_world_script.proofs.laws.lines_tell_steps.Goals as goal

pub returns-clause-steps : goal.returns-clause-steps
returns-clause-steps c = told

pub returns-clause-none : goal.returns-clause-none
returns-clause-none c = told_none
