use Rattle.dr_world_tie.proofs.Changes.{plans_are_adopted}
use Rattle.dr_world_tie.proofs.plans_are_adopted.Goals as goal

pub returns : goal.returns
returns c = plans_are_adopted
