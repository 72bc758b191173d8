use Rattle.dr_ledger.proofs.Earliest.{dues_have_answers}
use Rattle.dr_ledger.proofs.Ones.{due_is_of_next, due_is_one}
use Rattle.dr_ledger.proofs.laws.the_due_row_is_the_next.Goals as goal

pub returns-clause-one : goal.returns-clause-one
returns-clause-one c = due_is_one

pub returns-clause-next : goal.returns-clause-next
returns-clause-next c = due_is_of_next

pub returns-clause-answers : goal.returns-clause-answers
returns-clause-answers c = dues_have_answers
