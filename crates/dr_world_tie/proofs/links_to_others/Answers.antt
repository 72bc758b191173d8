use Rattle.dr_world_tie.proofs.LinksToOthers.{what_acceptors_hear, what_requestors_hear}
use Rattle.dr_world_tie.proofs.links_to_others.Goals as goal

pub returns-clause-acceptors : goal.returns-clause-acceptors
returns-clause-acceptors c = what_acceptors_hear

pub returns-clause-requestors : goal.returns-clause-requestors
returns-clause-requestors c = what_requestors_hear
