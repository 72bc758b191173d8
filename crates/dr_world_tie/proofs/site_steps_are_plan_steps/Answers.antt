use Rattle.dr_world_tie.proofs.Sites.{site_steps}
use Rattle.dr_world_tie.proofs.site_steps_are_plan_steps.Goals as goal

pub returns : goal.returns
returns c = site_steps
