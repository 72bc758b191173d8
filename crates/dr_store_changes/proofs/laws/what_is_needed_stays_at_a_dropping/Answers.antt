use Rattle.dr_store_changes.proofs.Dropped.{what_is_needed_stays_at_a_dropping}
use Rattle.dr_store_changes.proofs.laws.what_is_needed_stays_at_a_dropping.Goals as goal

pub returns : goal.returns
returns c = what_is_needed_stays_at_a_dropping
