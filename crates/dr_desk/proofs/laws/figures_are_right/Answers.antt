use Rattle.dr_desk.proofs.Figures.{figures}
use Rattle.dr_desk.proofs.laws.figures_are_right.Goals as goal

pub returns : goal.returns
returns c = figures
