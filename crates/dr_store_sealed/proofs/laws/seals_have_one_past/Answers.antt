use Rattle.dr_store_sealed.proofs.LawLemmas.{one_sealed}
use Rattle.dr_store_sealed.proofs.laws.seals_have_one_past.Goals as goal

pub returns : goal.returns
returns c = one_sealed
