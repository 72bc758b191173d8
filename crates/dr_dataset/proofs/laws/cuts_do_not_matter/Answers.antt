use Rattle.dr_dataset.proofs.HearLemmas.{goes_on_joined}
use Rattle.dr_dataset.proofs.laws.cuts_do_not_matter.Goals as goal

pub returns : goal.returns
returns c = goes_on_joined
