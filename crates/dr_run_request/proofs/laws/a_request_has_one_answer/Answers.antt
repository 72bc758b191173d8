use Rattle.dr_run_request.proofs.Once.{once}
use Rattle.dr_run_request.proofs.laws.a_request_has_one_answer.Goals as goal

pub returns : goal.returns
returns c = λ access browser head form one other. once c.paths_differ.ensures access browser head form one other
