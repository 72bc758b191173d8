use Rattle.dr_ledger_balance.proofs.Facts.{trees_said}
use Rattle.dr_ledger_balance.proofs.laws.trees_are_said.Goals as goal

pub returns : goal.returns
returns c = trees_said
