use Rattle.std.proofs.Common.{refl}
use Rattle.dr_base_quoted.proofs.laws.escapes_are_right.Goals as goal

pub returns : goal.returns
returns c = (refl, refl, refl)
