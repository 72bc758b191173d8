use Rattle.std.proofs.Common.{refl}
use Rattle.dr_plan_expand.specs.Standard.{classes_3}
use Rattle.dr_plan_expand.proofs.classes.classes_3.Goals as goal

pub returns : goal.returns
unfolding classes_3
returns c = refl
