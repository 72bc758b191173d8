use Rattle.dr_store_sealed.proofs.LawLemmas.{ends_in_seal}
use Rattle.dr_store_sealed.proofs.laws.a_file_ends_in_its_seal.Goals as goal

pub returns : goal.returns
returns c = ends_in_seal
