use Rattle.dr_world_model.proofs.Submitted.{nothing_is_made_up, what_is_there_is_unchanged}
use Rattle.dr_world_model.proofs.laws.nothing_is_made_up.Goals as goal

pub returns-clause-submitted : goal.returns-clause-submitted
returns-clause-submitted c = nothing_is_made_up

pub returns-clause-unchanged : goal.returns-clause-unchanged
returns-clause-unchanged c = what_is_there_is_unchanged
