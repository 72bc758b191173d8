use Rattle.dr_world_model.proofs.AmongAll.{all_ours_is_the_headline as all_ours_is, others_can_do}
use Rattle.dr_world_model.proofs.laws.all_ours_is_the_headline.Goals as goal

pub returns-clause-all : goal.returns-clause-all
returns-clause-all c = all_ours_is

pub returns-clause-others : goal.returns-clause-others
returns-clause-others c = others_can_do
