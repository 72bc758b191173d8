use Rattle.dr_ledger_text.proofs.Spelled.{of_one_line}
use Rattle.dr_ledger_text.proofs.laws.texts_are_of_one_line.Goals as goal

pub returns : goal.returns
returns c = of_one_line
