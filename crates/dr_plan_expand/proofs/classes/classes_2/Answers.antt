use Rattle.std.proofs.Common.{refl}
use Rattle.dr_plan_expand.specs.Standard.{classes_2}
use Rattle.dr_plan_expand.proofs.classes.classes_2.Goals as goal

pub returns : goal.returns
unfolding classes_2
returns c = refl
