use Rattle.dr_world_tie.proofs.Rejections.{hears_rejection}
use Rattle.dr_world_tie.proofs.hears_rejections.Goals as goal

pub returns : goal.returns
returns c = hears_rejection
