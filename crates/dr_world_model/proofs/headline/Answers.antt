use Rattle.dr_world_model.proofs.headline.Goals as goal
use Rattle.dr_world_model.proofs.FromSafety.{headline_holds}

pub returns : goal.returns
returns c = headline_holds
