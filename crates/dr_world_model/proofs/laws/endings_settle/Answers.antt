use Rattle.dr_world_model.proofs.Pinned.{closing_tries_again, closing_settles, rejected_tries_again, rejected_settles, restarts_ask_all, restarts_in_order, drops_leave_the_caller}
use Rattle.dr_world_model.proofs.laws.endings_settle.Goals as goal

pub returns-clause-closing : goal.returns-clause-closing
returns-clause-closing c = closing_tries_again

pub returns-clause-closed : goal.returns-clause-closed
returns-clause-closed c = closing_settles

pub returns-clause-rejected : goal.returns-clause-rejected
returns-clause-rejected c = rejected_tries_again

pub returns-clause-rejection : goal.returns-clause-rejection
returns-clause-rejection c = rejected_settles

pub returns-clause-restarts : goal.returns-clause-restarts
returns-clause-restarts c = restarts_ask_all

pub returns-clause-drops : goal.returns-clause-drops
returns-clause-drops c = drops_leave_the_caller

pub returns-clause-order : goal.returns-clause-order
returns-clause-order c = restarts_in_order
