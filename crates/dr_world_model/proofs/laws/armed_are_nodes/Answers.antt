use Rattle.dr_world_model.proofs.laws.armed_are_nodes.Goals as goal
use Rattle.dr_world_model.proofs.Orderly.{armed_are_nodes as armed_are_nodes_law, none_is_armed_after_adoption as none_is_armed_after_adoption_law}

pub returns-clause-nodes : goal.returns-clause-nodes
returns-clause-nodes c = armed_are_nodes_law

pub returns-clause-none : goal.returns-clause-none
returns-clause-none c = none_is_armed_after_adoption_law
