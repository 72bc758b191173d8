use Rattle.dr_ledger.proofs.Grounded.{adoptions_have_grounds, arrivals_have_grounds, droppings_have_grounds, forgettings_have_grounds, requeuings_have_grounds, settlings_have_grounds}
use Rattle.dr_ledger.proofs.laws.refusals_have_grounds.Goals as goal

pub returns-clause-arrive : goal.returns-clause-arrive
returns-clause-arrive g c = arrivals_have_grounds g.R.Routed.routing

pub returns-clause-settle : goal.returns-clause-settle
returns-clause-settle g c = settlings_have_grounds

pub returns-clause-requeue : goal.returns-clause-requeue
returns-clause-requeue g c = requeuings_have_grounds

pub returns-clause-drops : goal.returns-clause-drops
returns-clause-drops g c = droppings_have_grounds

pub returns-clause-forget : goal.returns-clause-forget
returns-clause-forget g c = forgettings_have_grounds

pub returns-clause-adopt : goal.returns-clause-adopt
returns-clause-adopt g c = adoptions_have_grounds
