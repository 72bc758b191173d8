use Rattle.dr_store_calls.proofs.Pasts.{seals_count_the_past}
use Rattle.dr_store_calls.proofs.past_laws.seals_count_the_past.Goals as goal

pub returns : goal.returns
returns c = seals_count_the_past
