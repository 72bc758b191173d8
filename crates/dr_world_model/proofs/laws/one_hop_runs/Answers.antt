use Rattle.dr_world_model.proofs.laws.one_hop_runs.Goals as goal
use Rattle.dr_world_model.proofs.Possible.{one_hop_runs as lemma}

pub returns : goal.returns
returns c = λ plan from to item accepted here differ sends offered taken. lemma plan from to item accepted here differ sends offered taken
