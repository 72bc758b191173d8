use Rattle.dr_ledger_history.proofs.Telling.{past_is_over}
use Rattle.dr_ledger_history.proofs.laws.a_past_is_over.Goals as goal

pub returns : goal.returns
returns g c = past_is_over g.R.Routed.routing
