use Rattle.dr_world_tie.proofs.Requests.{agrees_at_receiver as lemma}
use Rattle.dr_world_tie.proofs.agrees_at_receiver.Goals as goal

pub returns : goal.returns
returns c = lemma
