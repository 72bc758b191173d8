use Rattle.dr_dataset.proofs.OneFileLemmas.{one_file_answer}
use Rattle.dr_dataset.proofs.laws.a_file_has_one_answer.Goals as goal

pub returns : goal.returns
returns c = one_file_answer
