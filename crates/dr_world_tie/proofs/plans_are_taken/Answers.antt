use Rattle.dr_world_tie.proofs.Changes.{plans_can_be_taken, new_worlds_may_take, what_is_taken_is_one}
use Rattle.dr_world_tie.proofs.plans_are_taken.Goals as goal

pub returns-clause-can : goal.returns-clause-can
returns-clause-can c = plans_can_be_taken

pub returns-clause-may : goal.returns-clause-may
returns-clause-may c = new_worlds_may_take

pub returns-clause-one : goal.returns-clause-one
returns-clause-one c = what_is_taken_is_one
