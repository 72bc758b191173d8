use Rattle.dr_world_model.proofs.laws.each_event_can_happen.Goals as goal
use Rattle.dr_world_model.proofs.Ready.{events_happen}
use Rattle.dr_world_model.proofs.Restarting.{restarts_happen, adoptions_happen}

pub returns-clause-events : goal.returns-clause-events
returns-clause-events c = λ plan w. events_happen plan w

pub returns-clause-restarts : goal.returns-clause-restarts
returns-clause-restarts c = λ plan w node. restarts_happen plan w node

pub returns-clause-adoptions : goal.returns-clause-adoptions
returns-clause-adoptions c = λ plan w next may. adoptions_happen plan w next may
