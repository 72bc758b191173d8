use Rattle.std.proofs.Common.{refl}
use Rattle.dr_session.proofs.figures.outcomes.finishings.Goals as goal

pub returns : goal.returns
returns c = λ ended result. record { gone = refl; well = λ h. h; of_a_desk = λ h. h; for_memory = λ h. h }
