use Rattle.dr_plan_entries.proofs.Orders.{not_before_itself, before_onward, one_is_before}
use Rattle.dr_plan_entries.proofs.laws.entries_are_ordered.Goals as goal

pub returns-clause-apart : goal.returns-clause-apart
returns-clause-apart c = not_before_itself

pub returns-clause-onward : goal.returns-clause-onward
returns-clause-onward c = before_onward

pub returns-clause-whole : goal.returns-clause-whole
returns-clause-whole c = one_is_before
