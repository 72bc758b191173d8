use Rattle.dr_ledger.proofs.Unfits.{adoptions_add_a_line, adoptions_are_one, adoptions_have_answers}
use Rattle.dr_ledger.proofs.laws.an_adoption_is_one.Goals as goal

pub returns-clause-one : goal.returns-clause-one
returns-clause-one c = adoptions_are_one

pub returns-clause-answers : goal.returns-clause-answers
returns-clause-answers c = adoptions_have_answers

pub returns-clause-adds : goal.returns-clause-adds
returns-clause-adds c = adoptions_add_a_line
