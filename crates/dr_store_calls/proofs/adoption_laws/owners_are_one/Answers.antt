use Rattle.dr_store_calls.proofs.Owners.{owners_are_one}
use Rattle.dr_store_calls.proofs.adoption_laws.owners_are_one.Goals as goal

pub returns : goal.returns
returns c = owners_are_one
