use Rattle.dr_site.proofs.Strangers.{strangers_are_told}
use Rattle.dr_site.proofs.laws.strangers_are_told.Goals as goal

pub returns : goal.returns
returns c = strangers_are_told
