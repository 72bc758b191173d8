use Rattle.dr_world_tie.proofs.Pushing.{push_gives}
use Rattle.dr_world_tie.proofs.pushes_give.Goals as goal

pub returns : goal.returns
returns c = push_gives
