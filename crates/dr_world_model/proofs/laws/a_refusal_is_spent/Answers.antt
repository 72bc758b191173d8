use Rattle.dr_world_model.proofs.Ready.{a_refusal_is_spent as once}
use Rattle.dr_world_model.proofs.SpentWell.{arrivals_spend_well, settlings_spend_well, requeuings_spend_well, droppings_spend_well, forgettings_spend_well}
use Rattle.dr_world_model.proofs.laws.a_refusal_is_spent.Goals as goal

pub returns-clause-once : goal.returns-clause-once
returns-clause-once c = once

pub returns-clause-arrivals : goal.returns-clause-arrivals
returns-clause-arrivals c = arrivals_spend_well

pub returns-clause-settlings : goal.returns-clause-settlings
returns-clause-settlings c = settlings_spend_well

pub returns-clause-requeuings : goal.returns-clause-requeuings
returns-clause-requeuings c = requeuings_spend_well

pub returns-clause-droppings : goal.returns-clause-droppings
returns-clause-droppings c = droppings_spend_well

pub returns-clause-forgettings : goal.returns-clause-forgettings
returns-clause-forgettings c = forgettings_spend_well
