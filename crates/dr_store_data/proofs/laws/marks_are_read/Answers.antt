use Rattle.dr_store_data.proofs.HeadLemmas.{mark_read}
use Rattle.dr_store_data.proofs.laws.marks_are_read.Goals as goal

pub returns : goal.returns
returns c mark fits long = mark_read mark fits long
