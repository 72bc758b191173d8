use Rattle.dr_plan_expand.proofs.AllStorage.{all_storage}
use Rattle.dr_plan_expand.proofs.laws.the_set_of_all_has_every_class.Goals as goal

pub returns : goal.returns
returns c = all_storage
