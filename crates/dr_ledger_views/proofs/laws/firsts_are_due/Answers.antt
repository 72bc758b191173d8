use Rattle.dr_ledger_views.proofs.Asked.{firsts_are_due, least_is_one, none_is_never_due}
use Rattle.dr_ledger_views.proofs.laws.firsts_are_due.Goals as goal

pub returns-clause-one : goal.returns-clause-one
returns-clause-one c = least_is_one

pub returns-clause-some : goal.returns-clause-some
returns-clause-some c = firsts_are_due

pub returns-clause-none : goal.returns-clause-none
returns-clause-none c = none_is_never_due
