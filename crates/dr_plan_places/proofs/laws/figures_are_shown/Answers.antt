use Rattle.std.proofs.Common.{refl}
use Rattle.dr_plan_places.proofs.laws.figures_are_shown.Goals as goal

pub returns : goal.returns
returns c = (refl, refl, refl)
