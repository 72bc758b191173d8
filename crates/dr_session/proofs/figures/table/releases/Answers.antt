use Rattle.std.proofs.Common.{refl}
use Rattle.dr_session.proofs.figures.table.releases.Goals as goal

pub returns-clause-requests : goal.returns-clause-requests
returns-clause-requests c = λ core at. record { asks = refl; only = refl; before = refl; early = refl; answers = refl; collides = refl; late = refl }

pub returns-clause-answers : goal.returns-clause-answers
returns-clause-answers c = λ core at. record { before = refl; early = refl; closes = refl; late = refl }
