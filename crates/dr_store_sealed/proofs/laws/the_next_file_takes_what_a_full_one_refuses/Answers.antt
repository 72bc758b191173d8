use Rattle.dr_store_sealed.proofs.LawLemmas.{next_file}
use Rattle.dr_store_sealed.proofs.laws.the_next_file_takes_what_a_full_one_refuses.Goals as goal

pub returns : goal.returns
returns c = next_file
