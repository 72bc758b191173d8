use Rattle.dr_world_model.proofs.Failed.{claims_can_fail as lemma}
use Rattle.dr_world_model.proofs.laws.claims_can_fail.Goals as goal

pub returns : goal.returns
returns c = lemma
