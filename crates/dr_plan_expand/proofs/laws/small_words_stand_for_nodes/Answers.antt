use Rattle.dr_plan_expand.proofs.OneExpansion.{node_itself, strange_group}
use Rattle.dr_plan_expand.proofs.laws.small_words_stand_for_nodes.Goals as goal

pub returns-clause-node : goal.returns-clause-node
returns-clause-node c = node_itself

pub returns-clause-stranger : goal.returns-clause-stranger
returns-clause-stranger c = strange_group
