use Rattle.dr_store_calls.proofs.Pasts.{numbers_go_on_from_the_seal}
use Rattle.dr_store_calls.proofs.past_laws.numbers_go_on_from_the_seal.Goals as goal

pub returns : goal.returns
returns c = numbers_go_on_from_the_seal
