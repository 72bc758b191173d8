use Rattle.dr_store_calls.proofs.Owners.{cells_are_of_one_seal}
use Rattle.dr_store_calls.proofs.seal_laws.cells_are_of_one_seal.Goals as goal

pub returns : goal.returns
returns c = cells_are_of_one_seal
