use Rattle.dr_ledger_views.proofs.Callers.{callers_are_one, nobody_brings_nothing}
use Rattle.dr_ledger_views.proofs.laws.callers_are_one.Goals as goal

pub returns-clause-one : goal.returns-clause-one
returns-clause-one c = callers_are_one

pub returns-clause-none : goal.returns-clause-none
returns-clause-none c = nobody_brings_nothing
