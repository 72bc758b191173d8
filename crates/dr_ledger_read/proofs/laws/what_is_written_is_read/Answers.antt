use Rattle.dr_ledger_read.proofs.Reread.{gave}
use Rattle.dr_ledger_read.proofs.laws.what_is_written_is_read.Goals as goal

pub returns : goal.returns
returns c = gave c.texts_are_of_one_line.ensures
