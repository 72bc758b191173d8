use Rattle.dr_nego.proofs.Cutting.{last_is_marked, fragments_fit}
use Rattle.dr_nego.proofs.laws.fragments_fit.Goals as goal

pub returns-clause-last : goal.returns-clause-last
returns-clause-last c = last_is_marked

pub returns-clause-fit : goal.returns-clause-fit
returns-clause-fit c = fragments_fit
