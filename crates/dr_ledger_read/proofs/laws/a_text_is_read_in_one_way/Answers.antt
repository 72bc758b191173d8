use Rattle.dr_ledger_read.proofs.Reread.{in_one_way}
use Rattle.dr_ledger_read.proofs.laws.a_text_is_read_in_one_way.Goals as goal

pub returns : goal.returns
returns c = in_one_way c.texts_are_of_one_line.ensures
