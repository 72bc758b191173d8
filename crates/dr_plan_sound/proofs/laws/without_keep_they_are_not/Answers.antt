use Rattle.dr_plan_sound.proofs.TwoNodes.{without_keep_they_are_not}
use Rattle.dr_plan_sound.proofs.laws.without_keep_they_are_not.Goals as goal

pub returns : goal.returns
returns c = without_keep_they_are_not
