use Rattle.dr_store_changes.proofs.Bookings.{settlings_settle}
use Rattle.dr_store_changes.proofs.laws.settlings_settle.Goals as goal

pub returns : goal.returns
returns c = settlings_settle
