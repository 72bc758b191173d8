use Rattle.dr_dimse.proofs.StageIsOne.{stage_is_one}
use Rattle.dr_dimse.proofs.laws.a_stage_is_one.Goals as goal

pub returns : goal.returns
returns c = stage_is_one
