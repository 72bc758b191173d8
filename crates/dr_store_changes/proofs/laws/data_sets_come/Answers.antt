use Rattle.dr_store_changes.proofs.Joins.{data_sets_come}
use Rattle.dr_store_changes.proofs.laws.data_sets_come.Goals as goal

pub returns : goal.returns
returns c = data_sets_come
