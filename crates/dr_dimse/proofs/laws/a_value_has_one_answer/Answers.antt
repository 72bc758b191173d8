use Rattle.dr_dimse.proofs.OneTake.{one_take}
use Rattle.dr_dimse.proofs.laws.a_value_has_one_answer.Goals as goal

pub returns : goal.returns
returns c = one_take
