use Rattle.std.proofs.Common.{refl}
use Rattle.dr_session.proofs.figures.answered.sends.Goals as goal

pub returns-clause-findings : goal.returns-clause-findings
returns-clause-findings c = λ core at. record { stays = refl; dried = refl; store_fails = refl; memory = refl }

pub returns-clause-handings : goal.returns-clause-handings
returns-clause-handings c = λ core at. record { goes = refl; awaits = refl; nameless = refl; classless = refl }

pub returns-clause-contexts : goal.returns-clause-contexts
returns-clause-contexts c = λ core at. record { settles = refl; goes_on = refl; same = refl; settled_before = refl; store_fails = refl; memory = refl }

pub returns-clause-echoes : goal.returns-clause-echoes
returns-clause-echoes c = λ core now. record { goes = refl; another_syntax = refl; another_class = refl; unagreed = refl }
