use Rattle.dr_world.proofs.Played.{events_alone_lead, steps_alone_run}
use Rattle.dr_world.proofs.laws.steps_alone_are_events.Goals as goal

pub returns-clause-steps : goal.returns-clause-steps
returns-clause-steps c = steps_alone_run

pub returns-clause-events : goal.returns-clause-events
returns-clause-events c = events_alone_lead
