use Rattle.dr_ledger.proofs.Shown.{added_is_unarmed, no_line_leaves_armed, others_leave_armed, stores_spend}
use Rattle.dr_ledger.proofs.laws.a_refusal_waits_for_a_line.Goals as goal

pub returns-clause-added : goal.returns-clause-added
returns-clause-added c = added_is_unarmed

pub returns-clause-others : goal.returns-clause-others
returns-clause-others c = others_leave_armed

pub returns-clause-none : goal.returns-clause-none
returns-clause-none c = no_line_leaves_armed

pub returns-clause-store : goal.returns-clause-store
returns-clause-store c = stores_spend
