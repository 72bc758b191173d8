use Rattle.dr_store_calls.proofs.Owners.{seals_are_read}
use Rattle.dr_store_calls.proofs.seal_laws.seals_are_read.Goals as goal

pub returns : goal.returns
returns c = seals_are_read
