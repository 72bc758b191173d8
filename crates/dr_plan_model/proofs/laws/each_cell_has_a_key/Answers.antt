use Rattle.dr_plan_model.proofs.WalksAlike.{cell_has_a_key}
use Rattle.dr_plan_model.proofs.laws.each_cell_has_a_key.Goals as goal

pub returns : goal.returns
returns c = cell_has_a_key
