use Rattle.dr_ledger.proofs.Needs.{next_row_is_one, next_rows_have_answers, none_is_unreadable, unreadables_are_not_there}
use Rattle.dr_ledger.proofs.laws.the_next_row_is_one.Goals as goal

pub returns-clause-one : goal.returns-clause-one
returns-clause-one c = next_row_is_one

pub returns-clause-answers : goal.returns-clause-answers
returns-clause-answers c = next_rows_have_answers

pub returns-clause-there : goal.returns-clause-there
returns-clause-there c = unreadables_are_not_there

pub returns-clause-all : goal.returns-clause-all
returns-clause-all c = none_is_unreadable
