use Rattle.dr_store_lists.proofs.Alike.{keys_and_prints}
use Rattle.dr_store_lists.proofs.laws.keys_and_prints_are_instances.Goals as goal

pub returns : goal.returns
returns c = keys_and_prints
