use Rattle.dr_store_calls.proofs.Owners.{owned_by_none}
use Rattle.dr_store_calls.proofs.adoption_laws.empty_tables_are_owned_by_none.Goals as goal

pub returns : goal.returns
returns c = owned_by_none
