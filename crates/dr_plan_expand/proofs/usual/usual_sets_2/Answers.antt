use Rattle.std.proofs.Common.{refl}
use Rattle.dr_plan_expand.specs.Standard.{usual_sets_2}
use Rattle.dr_plan_expand.proofs.usual.usual_sets_2.Goals as goal

pub returns : goal.returns
unfolding usual_sets_2
returns c = refl
