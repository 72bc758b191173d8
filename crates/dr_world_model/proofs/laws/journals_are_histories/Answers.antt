use Rattle.dr_world_model.proofs.laws.journals_are_histories.Goals as goal
use Rattle.dr_world_model.proofs.Orderly.{journals_are_histories as journals_are_histories_law}

pub returns : goal.returns
returns c = journals_are_histories_law
