use Rattle.dr_ledger_views.proofs.Figures.{figures}
use Rattle.dr_ledger_views.proofs.laws.figures_are_right.Goals as goal

pub returns : goal.returns
returns c = figures
