use Rattle.std.proofs.Common.{refl}
use Rattle.dr_session.proofs.figures.spelled.responses.Goals as goal

pub returns-clause-echoes : goal.returns-clause-echoes
returns-clause-echoes c = λ core at. record { success = refl; misplaced = refl; unlimited = refl; unagreed = refl; short = refl }

pub returns-clause-stores : goal.returns-clause-stores
returns-clause-stores c = λ core at. record { large = refl; unreadable = refl; nameless = refl; misplaced = refl; another = refl }
