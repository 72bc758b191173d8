use Rattle.dr_world.proofs.Beginning.{begins}
use Rattle.dr_world.proofs.laws.begins.Goals as goal

pub returns : goal.returns
returns c = begins
