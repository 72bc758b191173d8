use Rattle.dr_ledger_balance.proofs.Bodies.{one_balance}
use Rattle.dr_ledger_balance.proofs.laws.texts_are_of_one_balance.Goals as goal

pub returns : goal.returns
returns c = one_balance
