use Rattle.dr_plan_places.proofs.Placing.{later, second_over, third_over}
use Rattle.dr_plan_places.proofs.laws.the_first_is_told.Goals as goal

pub returns-clause-bad : goal.returns-clause-bad
returns-clause-bad c = later

pub returns-clause-over : goal.returns-clause-over
returns-clause-over c = second_over

pub returns-clause-later : goal.returns-clause-later
returns-clause-later c = third_over
