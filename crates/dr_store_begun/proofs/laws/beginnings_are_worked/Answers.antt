use Rattle.dr_store_begun.proofs.Worked.{worked}
use Rattle.dr_store_begun.proofs.laws.beginnings_are_worked.Goals as goal

pub returns : goal.returns
returns c = worked
