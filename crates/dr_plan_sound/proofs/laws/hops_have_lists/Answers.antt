use Rattle.dr_plan_sound.proofs.PairLists.{hops_have_lists}
use Rattle.dr_plan_sound.proofs.laws.hops_have_lists.Goals as goal

pub returns : goal.returns
returns c = hops_have_lists
