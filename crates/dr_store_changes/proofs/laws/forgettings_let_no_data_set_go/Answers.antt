use Rattle.dr_store_changes.proofs.Forgotten.{forgettings_let_no_data_set_go}
use Rattle.dr_store_changes.proofs.laws.forgettings_let_no_data_set_go.Goals as goal

pub returns : goal.returns
returns c = forgettings_let_no_data_set_go
