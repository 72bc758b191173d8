use Rattle.dr_world_model.proofs.laws.two_nodes_run.Goals as goal
use Rattle.dr_world_model.proofs.TwoNodesRunning.{two_nodes_run as lemma}

pub returns : goal.returns
returns c = λ item class syntax. lemma item class syntax
