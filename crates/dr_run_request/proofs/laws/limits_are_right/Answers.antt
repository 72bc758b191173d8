use Rattle.dr_run_request.proofs.Limits.{limits_are_right}
use Rattle.dr_run_request.proofs.laws.limits_are_right.Goals as goal

pub returns : goal.returns
returns c = limits_are_right
