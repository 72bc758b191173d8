use Rattle.std.proofs.Common.{refl}
use Rattle.dr_plan_expand.specs.Standard.{syntaxes_1}
use Rattle.dr_plan_expand.proofs.syntaxes.syntaxes_1.Goals as goal

pub returns : goal.returns
unfolding syntaxes_1
returns c = refl
