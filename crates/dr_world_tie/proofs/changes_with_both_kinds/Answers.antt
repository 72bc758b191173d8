use Rattle.dr_world_tie.proofs.MixedChanges.{mixed_can_take, mixed_changes_keep_the_claims}
use Rattle.dr_world_tie.proofs.changes_with_both_kinds.Goals as goal

pub returns-clause-claims : goal.returns-clause-claims
returns-clause-claims c = mixed_changes_keep_the_claims

pub returns-clause-takes : goal.returns-clause-takes
returns-clause-takes c = mixed_can_take
