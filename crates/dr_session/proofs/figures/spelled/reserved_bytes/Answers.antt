use Rattle.std.proofs.Common.{refl}
use Rattle.dr_session.proofs.figures.spelled.reserved_bytes.Goals as goal

pub returns : goal.returns
returns c = record { asked = refl; answered = refl }
