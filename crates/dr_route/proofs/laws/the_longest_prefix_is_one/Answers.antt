use Rattle.dr_route.proofs.Agreement.{longest_is_one}
use Rattle.dr_route.proofs.laws.the_longest_prefix_is_one.Goals as goal

pub returns : goal.returns
returns c = longest_is_one
