use Rattle.dr_store_changes.proofs.Joins.{arrivals_arrive}
use Rattle.dr_store_changes.proofs.laws.arrivals_arrive.Goals as goal

pub returns : goal.returns
returns c = arrivals_arrive
