use Rattle.dr_nego.proofs.Concluded.{agreements_are_whole, one_conclusion}
use Rattle.dr_nego.proofs.laws.agreements_are_whole.Goals as goal

pub returns-clause-whole : goal.returns-clause-whole
returns-clause-whole c = agreements_are_whole

pub returns-clause-one : goal.returns-clause-one
returns-clause-one c = one_conclusion
