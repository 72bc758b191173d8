use Rattle.dr_cert_diff.proofs.Lawful.{same_plan}
use Rattle.dr_cert_diff.proofs.laws.the_same_plan_changes_nothing.Goals as goal

pub returns : goal.returns
returns c = same_plan
