use Rattle.dr_nego.proofs.Proposed.{one_proposal}
use Rattle.dr_nego.proofs.laws.there_is_one_proposal.Goals as goal

pub returns : goal.returns
returns c = one_proposal
