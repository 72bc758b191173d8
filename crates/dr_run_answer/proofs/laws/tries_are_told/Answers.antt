use Rattle.dr_run_answer.proofs.Tries.{tries_are_told}
use Rattle.dr_run_answer.proofs.laws.tries_are_told.Goals as goal

pub returns : goal.returns
returns c = tries_are_told
