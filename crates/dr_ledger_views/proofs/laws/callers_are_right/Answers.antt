use Rattle.dr_ledger_views.proofs.Callers.{callers_are_right}
use Rattle.dr_ledger_views.proofs.laws.callers_are_right.Goals as goal

pub returns : goal.returns
returns c = callers_are_right
