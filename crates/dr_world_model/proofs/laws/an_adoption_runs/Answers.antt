use Rattle.dr_world_model.proofs.CarriedOver.{an_adoption_runs as lemma}
use Rattle.dr_world_model.proofs.laws.an_adoption_runs.Goals as goal

pub returns : goal.returns
returns c = lemma
