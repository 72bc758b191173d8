use Rattle.dr_store_changes.proofs.Bookings.{requeuings_requeue}
use Rattle.dr_store_changes.proofs.laws.requeuings_requeue.Goals as goal

pub returns : goal.returns
returns c = requeuings_requeue
