use Rattle.dr_plan_expand.proofs.OneExpansion.{none_expands_and_fails, one_fault, answered}
use Rattle.dr_plan_expand.proofs.laws.a_text_expands_or_has_one_fault.Goals as goal

pub returns-clause-either : goal.returns-clause-either
returns-clause-either c = none_expands_and_fails

pub returns-clause-one : goal.returns-clause-one
returns-clause-one c = one_fault

pub returns-clause-some : goal.returns-clause-some
returns-clause-some c = answered
