use Rattle.dr_store_changes.proofs.Bookings.{repeats_repeat}
use Rattle.dr_store_changes.proofs.laws.repeats_repeat.Goals as goal

pub returns : goal.returns
returns c = repeats_repeat
