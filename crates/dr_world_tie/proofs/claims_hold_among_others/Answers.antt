use Rattle.dr_world_tie.proofs.OwnWorlds.{ends_are_asked_so, others_are_not_here, ours_can_listen, own_worlds_keep_the_claims}
use Rattle.dr_world_tie.proofs.claims_hold_among_others.Goals as goal

pub returns-clause-claims : goal.returns-clause-claims
returns-clause-claims c = own_worlds_keep_the_claims

pub returns-clause-listens : goal.returns-clause-listens
returns-clause-listens c = ours_can_listen

pub returns-clause-others : goal.returns-clause-others
returns-clause-others c = others_are_not_here

pub returns-clause-asked : goal.returns-clause-asked
returns-clause-asked c = ends_are_asked_so
