use Rattle.dr_world.proofs.Moving.{moved}
use Rattle.dr_world.proofs.laws.moves.Goals as goal

pub returns : goal.returns
returns c = moved
