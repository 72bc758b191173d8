use Rattle.dr_dimse.proofs.StageIsOne.{goes_on_by}
use Rattle.dr_dimse.proofs.laws.a_message_comes_value_by_value.Goals as goal

pub returns : goal.returns
returns c = goes_on_by
