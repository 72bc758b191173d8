use Rattle.std.proofs.Common.{refl}
use Rattle.dr_session.proofs.figures.table.data.Goals as goal

pub returns-clause-values : goal.returns-clause-values
returns-clause-values c = λ core at p. record { before = refl; early = refl; inner = refl; none = refl; strange = refl; misplaced = refl; leaving = refl; late = refl }

pub returns-clause-pushes : goal.returns-clause-pushes
returns-clause-pushes c = λ core at. record { due = refl; accepting = refl; leaving = refl; late = refl }

pub returns-clause-passings : goal.returns-clause-passings
returns-clause-passings c = λ core at uid. record { settles = refl; leaves = refl; settled_before = refl; store_fails = refl }
