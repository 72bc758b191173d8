use Rattle.dr_ledger_past.proofs.Figured.{figures}
use Rattle.dr_ledger_past.proofs.figures.figures_are_right.Goals as goal

pub returns : goal.returns
returns c = figures
