use Rattle.dr_check.proofs.OneFirst.{one_is_named_there}
use Rattle.dr_check.proofs.laws.one_is_named_at_an_entry.Goals as goal

pub returns : goal.returns
returns c = one_is_named_there
