use Rattle.dr_world_model.proofs.AmongActs.{headline_holds_among}
use Rattle.dr_world_model.proofs.headline_among.Goals as goal

pub returns : goal.returns
returns c = headline_holds_among
