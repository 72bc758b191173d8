use Rattle.std.proofs.Common.{refl}
use Rattle.dr_session.proofs.figures.outcomes.askings.Goals as goal

pub returns : goal.returns
returns c = λ core p. record { first = refl; release = refl; asked = refl; awaiting = refl; leaving = refl; serving = refl }
