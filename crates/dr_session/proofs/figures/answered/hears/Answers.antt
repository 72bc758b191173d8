use Rattle.std.proofs.Common.{refl}
use Rattle.dr_session.proofs.figures.answered.hears.Goals as goal

pub returns-clause-agreements : goal.returns-clause-agreements
returns-clause-agreements c = λ core at agreed. record { taken = refl }

pub returns-clause-settlings : goal.returns-clause-settlings
returns-clause-settlings c = λ core at class. record { shows_on = refl; goes_on = refl; settled_before = refl; store_fails = refl; memory = refl }

pub returns-clause-rejected : goal.returns-clause-rejected
returns-clause-rejected c = λ core at rj first. record {
  none = refl;
  settles = refl;
  settled = refl;
  settled_before = refl;
  store_fails = refl;
  settling_fails = refl;
  memory = refl;
}
