use Rattle.dr_ledger.proofs.Holdings.{held_is_never_next, held_until_named, unreadable_is_held, unreadable_is_passed, unreadable_is_queued_again}
use Rattle.dr_ledger.proofs.laws.what_cannot_be_read_is_held.Goals as goal

pub returns-clause-held : goal.returns-clause-held
returns-clause-held g c = unreadable_is_held

pub returns-clause-unsent : goal.returns-clause-unsent
returns-clause-unsent g c = held_is_never_next

pub returns-clause-named : goal.returns-clause-named
returns-clause-named g c = held_until_named g.R.Routed.routing

pub returns-clause-passed : goal.returns-clause-passed
returns-clause-passed g c = unreadable_is_passed

pub returns-clause-again : goal.returns-clause-again
returns-clause-again g c = unreadable_is_queued_again
