use Rattle.dr_world_model.proofs.laws.accepted_are_the_hops.Goals as goal
use Rattle.dr_world_model.proofs.TwoNodesRunning.{accepted_are_the_hops as lemma}

pub returns : goal.returns
returns c = λ plan sound from to accepted offered. lemma plan sound from to accepted offered
