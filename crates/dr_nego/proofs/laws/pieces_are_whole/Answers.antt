use Rattle.dr_nego.proofs.Cutting.{pieces_are_whole, one_cut}
use Rattle.dr_nego.proofs.laws.pieces_are_whole.Goals as goal

pub returns-clause-whole : goal.returns-clause-whole
returns-clause-whole c = pieces_are_whole

pub returns-clause-one : goal.returns-clause-one
returns-clause-one c = one_cut
