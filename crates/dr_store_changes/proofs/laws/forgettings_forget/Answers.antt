use Rattle.dr_store_changes.proofs.Forgotten.{forgettings_forget}
use Rattle.dr_store_changes.proofs.laws.forgettings_forget.Goals as goal

pub returns : goal.returns
returns c = forgettings_forget
