use Rattle.dr_store_calls.proofs.Owners.{the_seal_is_kept}
use Rattle.dr_store_calls.proofs.adoption_laws.adoptions_keep_the_seal.Goals as goal

pub returns : goal.returns
returns c = the_seal_is_kept
