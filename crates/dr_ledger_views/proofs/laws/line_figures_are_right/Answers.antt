use Rattle.dr_ledger_views.proofs.LineFigures.{line_figures}
use Rattle.dr_ledger_views.proofs.laws.line_figures_are_right.Goals as goal

pub returns : goal.returns
returns c = line_figures
