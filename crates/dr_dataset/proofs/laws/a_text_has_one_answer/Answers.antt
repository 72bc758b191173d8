use Rattle.dr_dataset.proofs.OneAnswerLemmas.{one_answer}
use Rattle.dr_dataset.proofs.SomeAnswerLemmas.{some_answer}
use Rattle.dr_dataset.proofs.laws.a_text_has_one_answer.Goals as goal

pub returns-clause-one : goal.returns-clause-one
returns-clause-one c = one_answer

pub returns-clause-some : goal.returns-clause-some
returns-clause-some c = some_answer
