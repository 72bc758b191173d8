use Rattle.dr_world_model.proofs.Possible.{a_forgetting_runs as lemma}
use Rattle.dr_world_model.proofs.laws.a_forgetting_runs.Goals as goal

pub returns : goal.returns
returns c = lemma
