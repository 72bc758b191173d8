use Rattle.dr_check.proofs.OneFirst.{one_is_named}
use Rattle.dr_check.proofs.laws.one_is_named_first.Goals as goal

pub returns : goal.returns
returns c = one_is_named
