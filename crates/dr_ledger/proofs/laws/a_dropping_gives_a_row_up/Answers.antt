use Rattle.dr_ledger.proofs.Dropped.{brought_again, droppings_count}
use Rattle.dr_ledger.proofs.Droppings.{adoptions_let_dropped_go, dropped_is_never_next, dropped_is_new, dropped_may_be_forgotten, droppings_give_a_row_up, queued_is_neither}
use Rattle.dr_ledger.proofs.laws.a_dropping_gives_a_row_up.Goals as goal

pub returns-clause-row : goal.returns-clause-row
returns-clause-row g c = droppings_give_a_row_up

pub returns-clause-again : goal.returns-clause-again
returns-clause-again g c = dropped_is_new g.R.Routed.routing

pub returns-clause-unsent : goal.returns-clause-unsent
returns-clause-unsent g c = dropped_is_never_next

pub returns-clause-adoption : goal.returns-clause-adoption
returns-clause-adoption g c = adoptions_let_dropped_go

pub returns-clause-forgetting : goal.returns-clause-forgetting
returns-clause-forgetting g c = dropped_may_be_forgotten

pub returns-clause-queued : goal.returns-clause-queued
returns-clause-queued g c = queued_is_neither

pub returns-clause-counts : goal.returns-clause-counts
returns-clause-counts g c = droppings_count

pub returns-clause-anew : goal.returns-clause-anew
returns-clause-anew g c = brought_again
