use Rattle.dr_store.proofs.Readable.{just}
use Rattle.dr_store.proofs.laws.the_data_sets_are_those_that_can_be_read.Goals as goal

pub returns : goal.returns
returns c = just
