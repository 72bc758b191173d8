use Rattle.dr_dimse.proofs.SomeTake.{some_take}
use Rattle.dr_dimse.proofs.laws.a_value_has_an_answer.Goals as goal

pub returns : goal.returns
returns c = some_take
