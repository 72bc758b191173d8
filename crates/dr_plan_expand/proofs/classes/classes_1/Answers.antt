use Rattle.std.proofs.Common.{refl}
use Rattle.dr_plan_expand.specs.Standard.{classes_1}
use Rattle.dr_plan_expand.proofs.classes.classes_1.Goals as goal

pub returns : goal.returns
unfolding classes_1
returns c = refl
