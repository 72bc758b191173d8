use Rattle.dr_world_tie.proofs.World.{world_steps}
use Rattle.dr_world_tie.proofs.world_steps_are_events.Goals as goal

pub returns : goal.returns
returns c = world_steps
