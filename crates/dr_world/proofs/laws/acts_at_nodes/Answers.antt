use Rattle.dr_world.proofs.AtNodes.{strangers, submits, requeues, drops, refuses}
use Rattle.dr_world.proofs.LettingGo.{forgets, under_way_stays}
use Rattle.dr_world.proofs.StayingAway.{stays_away}
use Rattle.dr_world.proofs.laws.acts_at_nodes.Goals as goal

pub returns-clause-stranger : goal.returns-clause-stranger
returns-clause-stranger c = strangers

pub returns-clause-submit : goal.returns-clause-submit
returns-clause-submit c = submits

pub returns-clause-away : goal.returns-clause-away
returns-clause-away c = stays_away

pub returns-clause-requeue : goal.returns-clause-requeue
returns-clause-requeue c = requeues

pub returns-clause-drop : goal.returns-clause-drop
returns-clause-drop c = drops

pub returns-clause-forget : goal.returns-clause-forget
returns-clause-forget c = forgets

pub returns-clause-under_way : goal.returns-clause-under_way
returns-clause-under_way c = under_way_stays

pub returns-clause-refuse : goal.returns-clause-refuse
returns-clause-refuse c = refuses
