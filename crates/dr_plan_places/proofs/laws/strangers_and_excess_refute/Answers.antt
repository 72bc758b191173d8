use Rattle.dr_plan_places.proofs.Strange.{strangers_refute, excess_refutes}
use Rattle.dr_plan_places.proofs.laws.strangers_and_excess_refute.Goals as goal

pub returns-clause-stranger : goal.returns-clause-stranger
returns-clause-stranger c = strangers_refute

pub returns-clause-excess : goal.returns-clause-excess
returns-clause-excess c = excess_refutes
