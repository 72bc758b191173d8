use Rattle.std.proofs.Common.{refl}
use Rattle.dr_session.proofs.figures.table.answers.Goals as goal

pub returns-clause-acceptances : goal.returns-clause-acceptances
returns-clause-acceptances c = λ core at ac agreed. record { before = refl; taken = refl; strange = refl; again = refl; late = refl }

pub returns-clause-rejections : goal.returns-clause-rejections
returns-clause-rejections c = λ core at rj. record { before = refl; taken = refl; again = refl; late = refl }
