use Rattle.dr_dataset.proofs.LongerLemmas.{opens_longer, fault_stays}
use Rattle.dr_dataset.proofs.laws.a_front_stays_as_it_was_read.Goals as goal

pub returns-clause-fronts : goal.returns-clause-fronts
returns-clause-fronts c = opens_longer

pub returns-clause-faults : goal.returns-clause-faults
returns-clause-faults c = fault_stays
