use Rattle.dr_store_sealed.proofs.InTables.{seals_are_read_back}
use Rattle.dr_store_sealed.proofs.laws.seals_are_read_back.Goals as goal

pub returns : goal.returns
returns c = seals_are_read_back
