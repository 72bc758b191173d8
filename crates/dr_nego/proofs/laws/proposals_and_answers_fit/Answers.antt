use Rattle.dr_nego.proofs.Sized.{proposals_fit, echoes_fit, acceptances_fit}
use Rattle.dr_nego.proofs.laws.proposals_and_answers_fit.Goals as goal

pub returns-clause-proposals : goal.returns-clause-proposals
returns-clause-proposals c = proposals_fit

pub returns-clause-echoes : goal.returns-clause-echoes
returns-clause-echoes c = echoes_fit

pub returns-clause-acceptances : goal.returns-clause-acceptances
returns-clause-acceptances c = acceptances_fit
