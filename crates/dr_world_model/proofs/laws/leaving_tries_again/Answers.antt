use Rattle.dr_world_model.proofs.laws.leaving_tries_again.Goals as goal
use Rattle.dr_world_model.proofs.Ended.{leaving_tries_again as leaving_tries_again_law, leaving_settles as leaving_settles_law, left_is_off as left_is_off_law}

pub returns-clause-again : goal.returns-clause-again
returns-clause-again c = λ w v number link item at under left. leaving_tries_again_law w v number link item at under left

pub returns-clause-settles : goal.returns-clause-settles
returns-clause-settles c = λ w v number link item at under left. leaving_settles_law w v number link item at under left

pub returns-clause-off : goal.returns-clause-off
returns-clause-off c = λ w v number answer left. left_is_off_law w v number answer left
