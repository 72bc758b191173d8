use Rattle.dr_world_model.proofs.AmongActs.{what_nobody_gave_up_is_there_among as among}
use Rattle.dr_world_model.proofs.FromSafety.{what_nobody_gave_up_is_there as all}
use Rattle.dr_world_model.proofs.laws.what_nobody_gave_up_is_there.Goals as goal

pub returns-clause-all : goal.returns-clause-all
returns-clause-all c = all

pub returns-clause-among : goal.returns-clause-among
returns-clause-among c = among
