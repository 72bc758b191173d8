use Rattle.dr_plan_model.proofs.WalksAlike.{send_alike, keep_alike, enter_alike, walk_alike, reach_alike}
use Rattle.dr_plan_model.proofs.laws.keys_of_one_cell_walk_alike.Goals as goal

pub returns-clause-send : goal.returns-clause-send
returns-clause-send c = send_alike

pub returns-clause-keep : goal.returns-clause-keep
returns-clause-keep c = keep_alike

pub returns-clause-enter : goal.returns-clause-enter
returns-clause-enter c = enter_alike

pub returns-clause-walk : goal.returns-clause-walk
returns-clause-walk c = walk_alike

pub returns-clause-reach : goal.returns-clause-reach
returns-clause-reach c = reach_alike
