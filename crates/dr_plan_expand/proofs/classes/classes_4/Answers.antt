use Rattle.std.proofs.Common.{refl}
use Rattle.dr_plan_expand.specs.Standard.{classes_4}
use Rattle.dr_plan_expand.proofs.classes.classes_4.Goals as goal

pub returns : goal.returns
unfolding classes_4
returns c = refl
