use Rattle.dr_plan_places.proofs.Placing.{fails}
use Rattle.dr_plan_places.proofs.laws.plans_with_places_fail.Goals as goal

pub returns : goal.returns
returns c = fails
