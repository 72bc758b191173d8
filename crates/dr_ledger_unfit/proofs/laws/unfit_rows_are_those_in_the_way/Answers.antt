use Rattle.dr_ledger_unfit.proofs.Picks.{none_is_fit, unfit_are_one}
use Rattle.dr_ledger_unfit.proofs.laws.unfit_rows_are_those_in_the_way.Goals as goal

pub returns-clause-one : goal.returns-clause-one
returns-clause-one c = unfit_are_one

pub returns-clause-none : goal.returns-clause-none
returns-clause-none c = none_is_fit
