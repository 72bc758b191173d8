use Rattle.dr_ledger_text.proofs.OneLine.{is_one_line}
use Rattle.dr_ledger_text.proofs.laws.texts_are_one_line.Goals as goal

pub returns : goal.returns
returns c = is_one_line
