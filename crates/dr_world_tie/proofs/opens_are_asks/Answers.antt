use Rattle.dr_world_tie.proofs.Opening.{opens_are_asks as lemma}
use Rattle.dr_world_tie.proofs.opens_are_asks.Goals as goal

pub returns : goal.returns
returns c = lemma
