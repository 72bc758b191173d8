use Rattle.std.proofs.Common.{refl}
use Rattle.dr_base_quoted.proofs.laws.figures_are_right.Goals as goal

pub returns : goal.returns
returns c = (refl, refl, refl, refl)
