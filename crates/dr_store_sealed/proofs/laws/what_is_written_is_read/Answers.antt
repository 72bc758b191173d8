use Rattle.dr_store_sealed.proofs.LawLemmas.{one_list}
use Rattle.dr_store_sealed.proofs.laws.what_is_written_is_read.Goals as goal

pub returns : goal.returns
returns c = one_list
