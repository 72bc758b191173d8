use Rattle.dr_store_past.proofs.Shows.{one_past}
use Rattle.dr_store_past.proofs.laws.a_file_shows_one_past.Goals as goal

pub returns : goal.returns
returns c = one_past c.texts_are_of_one_line.ensures
