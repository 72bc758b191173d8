use Rattle.dr_world_tie.proofs.Responses.{hears_reply}
use Rattle.dr_world_tie.proofs.hears_responses.Goals as goal

pub returns : goal.returns
returns c = hears_reply
