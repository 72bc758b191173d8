use Rattle.dr_ledger_balance.proofs.Figures.{can_come}
use Rattle.dr_ledger_balance.proofs.laws.refusals_can_come.Goals as goal

pub returns : goal.returns
returns c = can_come
