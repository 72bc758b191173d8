use Rattle.dr_world_tie.proofs.OwnChanges.{ours_can_take, ours_may_take_at_first, own_changes_keep_the_claims}
use Rattle.dr_world_tie.proofs.changes_among_others.Goals as goal

pub returns-clause-claims : goal.returns-clause-claims
returns-clause-claims c = own_changes_keep_the_claims

pub returns-clause-takes : goal.returns-clause-takes
returns-clause-takes c = ours_can_take

pub returns-clause-first : goal.returns-clause-first
returns-clause-first c = ours_may_take_at_first
