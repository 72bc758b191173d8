use Rattle.dr_ledger.proofs.Grounded.{awaited_is_not_over, waits_until_settled}
use Rattle.dr_ledger.proofs.laws.a_row_waits_until_it_is_settled.Goals as goal

pub returns-clause-waits : goal.returns-clause-waits
returns-clause-waits g c = waits_until_settled g.R.Routed.routing

pub returns-clause-stays : goal.returns-clause-stays
returns-clause-stays g c = awaited_is_not_over
