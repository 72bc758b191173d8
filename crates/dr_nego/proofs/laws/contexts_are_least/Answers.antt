use Rattle.dr_nego.proofs.Concluded.{contexts_are_least}
use Rattle.dr_nego.proofs.laws.contexts_are_least.Goals as goal

pub returns : goal.returns
returns c = contexts_are_least
