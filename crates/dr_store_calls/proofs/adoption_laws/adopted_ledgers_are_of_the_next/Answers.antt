use Rattle.dr_store_calls.proofs.Adoptions.{adopted_ledgers_are_of_the_next}
use Rattle.dr_store_calls.proofs.adoption_laws.adopted_ledgers_are_of_the_next.Goals as goal

pub returns : goal.returns
returns c = adopted_ledgers_are_of_the_next
