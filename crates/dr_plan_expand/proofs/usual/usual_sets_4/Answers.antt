use Rattle.std.proofs.Common.{refl}
use Rattle.dr_plan_expand.specs.Standard.{usual_sets_4}
use Rattle.dr_plan_expand.proofs.usual.usual_sets_4.Goals as goal

pub returns : goal.returns
unfolding usual_sets_4
returns c = refl
