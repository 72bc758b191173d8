use Rattle.dr_plan_expand.proofs.OneExpansion.{one_expansion, own_expansion}
use Rattle.dr_plan_expand.proofs.laws.an_expansion_is_one_and_its_own.Goals as goal

pub returns-clause-one : goal.returns-clause-one
returns-clause-one c = one_expansion

pub returns-clause-own : goal.returns-clause-own
returns-clause-own c = own_expansion
