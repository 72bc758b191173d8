use Rattle.dr_nego.proofs.Concluded.{both_sides_agree}
use Rattle.dr_nego.proofs.laws.both_sides_agree.Goals as goal

pub returns : goal.returns
returns c = both_sides_agree
