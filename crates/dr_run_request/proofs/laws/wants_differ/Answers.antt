use Rattle.dr_run_request.proofs.Limits.{wants_differ}
use Rattle.dr_run_request.proofs.laws.wants_differ.Goals as goal

pub returns-clause-one : goal.returns-clause-one
returns-clause-one c = wants_differ
