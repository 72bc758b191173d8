use Rattle.dr_world_tie.proofs.Nodes.{submitting_takes, requeueing_is_requeue, giving_up_is_drop, forgetting_is_forget}
use Rattle.dr_world_tie.proofs.Nodes.{refusing_is_refuse, staying_away_is_stay_away, time_passes}
use Rattle.dr_world_tie.proofs.nodes_act.Goals as goal

pub returns-clause-submitting : goal.returns-clause-submitting
returns-clause-submitting c = submitting_takes

pub returns-clause-staying_away : goal.returns-clause-staying_away
returns-clause-staying_away c = staying_away_is_stay_away

pub returns-clause-requeueing : goal.returns-clause-requeueing
returns-clause-requeueing c = requeueing_is_requeue

pub returns-clause-giving_up : goal.returns-clause-giving_up
returns-clause-giving_up c = giving_up_is_drop

pub returns-clause-forgetting : goal.returns-clause-forgetting
returns-clause-forgetting c = forgetting_is_forget

pub returns-clause-refusing : goal.returns-clause-refusing
returns-clause-refusing c = refusing_is_refuse

pub returns-clause-time : goal.returns-clause-time
returns-clause-time c = time_passes
