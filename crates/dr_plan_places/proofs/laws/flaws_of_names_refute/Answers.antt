use Rattle.dr_plan_places.proofs.Flawed.{flawed, long_first, first_tab}
use Rattle.dr_plan_places.proofs.laws.flaws_of_names_refute.Goals as goal

pub returns-clause-flaws : goal.returns-clause-flaws
returns-clause-flaws c = flawed

pub returns-clause-long : goal.returns-clause-long
returns-clause-long c = long_first

pub returns-clause-tabs : goal.returns-clause-tabs
returns-clause-tabs c = first_tab
