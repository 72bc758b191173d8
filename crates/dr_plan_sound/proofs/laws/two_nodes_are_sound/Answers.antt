use Rattle.dr_plan_sound.proofs.TwoNodes.{two_nodes_are_sound}
use Rattle.dr_plan_sound.proofs.laws.two_nodes_are_sound.Goals as goal

pub returns : goal.returns
returns c = two_nodes_are_sound
