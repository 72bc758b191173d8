use Rattle.dr_world_tie.proofs.Giving.{gives_store}
use Rattle.dr_world_tie.proofs.gives_stores.Goals as goal

pub returns : goal.returns
returns c = gives_store
