use Rattle.dr_world_model.proofs.Possible.{a_dropping_runs as lemma}
use Rattle.dr_world_model.proofs.laws.a_dropping_runs.Goals as goal

pub returns : goal.returns
returns c = lemma
