use Rattle.dr_route.proofs.Agreement.{cell_alike}
use Rattle.dr_route.proofs.laws.the_same_values_make_the_same_cells.Goals as goal

pub returns : goal.returns
returns c = cell_alike
