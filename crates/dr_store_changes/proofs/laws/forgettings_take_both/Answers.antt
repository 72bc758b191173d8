use Rattle.dr_store_changes.proofs.Forgotten.{forgettings_take_both}
use Rattle.dr_store_changes.proofs.laws.forgettings_take_both.Goals as goal

pub returns : goal.returns
returns c = forgettings_take_both
