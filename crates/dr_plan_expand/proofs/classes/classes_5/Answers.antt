use Rattle.std.proofs.Common.{refl}
use Rattle.dr_plan_expand.specs.Standard.{classes_5}
use Rattle.dr_plan_expand.proofs.classes.classes_5.Goals as goal

pub returns : goal.returns
unfolding classes_5
returns c = refl
