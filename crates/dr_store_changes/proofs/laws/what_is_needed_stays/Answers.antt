use Rattle.dr_store_changes.proofs.Bookings.{what_is_needed_stays}
use Rattle.dr_store_changes.proofs.laws.what_is_needed_stays.Goals as goal

pub returns : goal.returns
returns c = what_is_needed_stays
