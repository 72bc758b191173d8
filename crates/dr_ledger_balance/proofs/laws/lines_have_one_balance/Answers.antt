use Rattle.dr_ledger_balance.proofs.Facts.{one_of_lines}
use Rattle.dr_ledger_balance.proofs.laws.lines_have_one_balance.Goals as goal

pub returns : goal.returns
returns c = one_of_lines
