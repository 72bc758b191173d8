use Rattle.dr_store_calls.proofs.Owners.{mark_and_seal_are_kept}
use Rattle.dr_store_calls.proofs.adoption_laws.adoptions_keep_mark_and_seal.Goals as goal

pub returns : goal.returns
returns c = mark_and_seal_are_kept
