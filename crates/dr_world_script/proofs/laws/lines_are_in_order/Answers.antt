use Rattle.dr_world_script.proofs.Placing.{lines_in_order}
use Rattle.dr_world_script.proofs.laws.lines_are_in_order.Goals as goal

pub returns : goal.returns
returns c = lines_in_order
