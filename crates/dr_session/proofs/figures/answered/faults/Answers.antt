use Rattle.std.proofs.Common.{refl}
use Rattle.dr_session.proofs.figures.answered.faults.Goals as goal

pub returns : goal.returns
returns c = record { unknown = refl; long = refl; item = refl; context = refl }
