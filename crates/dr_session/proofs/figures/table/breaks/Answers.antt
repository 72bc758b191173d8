use Rattle.std.proofs.Common.{refl}
use Rattle.dr_session.proofs.figures.table.breaks.Goals as goal

pub returns-clause-aborts : goal.returns-clause-aborts
returns-clause-aborts c = λ core at a p. record { asked = refl; fresh = refl; late = refl; heard = refl; breaks = refl }

pub returns-clause-endings : goal.returns-clause-endings
returns-clause-endings c = λ core at p. record { gone = refl; breaks = refl }

pub returns-clause-late : goal.returns-clause-late
returns-clause-late c = λ core. record { fresh = refl; waiting = refl; expired = refl; idle = refl; patient = refl; impatient = refl; accepting = refl }

pub returns-clause-no_pdus : goal.returns-clause-no_pdus
returns-clause-no_pdus c = λ core at. record { before = refl; unknown = refl; invalid = refl; late = refl }

pub returns-clause-silences : goal.returns-clause-silences
returns-clause-silences c = λ core. record { agreed = refl; asking = refl; fresh = refl; over = refl; expired = refl }
