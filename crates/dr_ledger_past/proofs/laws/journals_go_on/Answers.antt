use Rattle.dr_ledger_past.proofs.Alike.{histories_alike}
use Rattle.dr_ledger_past.proofs.Goings.{journals_go_on, what_was_made_counts}
use Rattle.dr_ledger_past.proofs.laws.journals_go_on.Goals as goal

pub returns-clause-histories : goal.returns-clause-histories
returns-clause-histories g c = histories_alike g.R.Routed.routing

pub returns-clause-journals : goal.returns-clause-journals
returns-clause-journals g c = journals_go_on g.R.Routed.routing

pub returns-clause-made : goal.returns-clause-made
returns-clause-made g c = what_was_made_counts g.R.Routed.routing
