use Rattle.std.proofs.Common.{refl}
use Rattle.dr_session.proofs.figures.spelled.data_sets.Goals as goal

pub returns : goal.returns
returns c = record { unlimited = refl; short = refl }
