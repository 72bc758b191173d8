use Rattle.dr_world.proofs.AtNodes.{ticks}
use Rattle.dr_world.proofs.laws.ticks.Goals as goal

pub returns : goal.returns
returns c = ticks
