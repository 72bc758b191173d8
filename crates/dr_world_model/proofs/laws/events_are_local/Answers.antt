use Rattle.dr_world_model.proofs.Local.{events_are_local}
use Rattle.dr_world_model.proofs.laws.events_are_local.Goals as goal

pub returns : goal.returns
returns c = events_are_local
