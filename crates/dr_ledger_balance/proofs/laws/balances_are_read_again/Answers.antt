use Rattle.dr_ledger_balance.proofs.Facts.{gave}
use Rattle.dr_ledger_balance.proofs.laws.balances_are_read_again.Goals as goal

pub returns : goal.returns
returns c = λ b most answer fits is few h. gave b most fits is few answer h
