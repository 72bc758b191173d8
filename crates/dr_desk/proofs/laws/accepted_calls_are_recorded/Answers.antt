use Rattle.dr_desk.proofs.Recorded.{arrivals_are_recorded, droppings_are_recorded, forgettings_are_recorded, requeuings_are_recorded, settlings_are_recorded}
use Rattle.dr_desk.proofs.laws.accepted_calls_are_recorded.Goals as goal

pub returns-clause-arrive : goal.returns-clause-arrive
returns-clause-arrive g c = arrivals_are_recorded g.R.Routed.routing

pub returns-clause-settle : goal.returns-clause-settle
returns-clause-settle g c = settlings_are_recorded

pub returns-clause-requeue : goal.returns-clause-requeue
returns-clause-requeue g c = requeuings_are_recorded

pub returns-clause-drop : goal.returns-clause-drop
returns-clause-drop g c = droppings_are_recorded

pub returns-clause-forget : goal.returns-clause-forget
returns-clause-forget g c = forgettings_are_recorded
