use Rattle.dr_world_tie.proofs.Restarting.{restart_leaves}
use Rattle.dr_world_tie.proofs.restarts.Goals as goal

pub returns : goal.returns
returns c = restart_leaves
