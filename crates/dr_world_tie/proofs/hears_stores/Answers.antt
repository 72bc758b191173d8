use Rattle.dr_world_tie.proofs.Stores.{hears_store}
use Rattle.dr_world_tie.proofs.hears_stores.Goals as goal

pub returns : goal.returns
returns c = hears_store
