use Rattle.std.proofs.Common.{refl}
use Rattle.dr_session.proofs.figures.spelled.message_ids.Goals as goal

pub returns : goal.returns
returns c = λ core at. record { first = refl; next = refl; greatest = refl; again = refl; goes_last = refl; goes_over = refl }
