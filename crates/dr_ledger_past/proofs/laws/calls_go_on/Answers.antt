use Rattle.dr_ledger_past.proofs.Goings.{adoptions_go_on, calls_go_on, journals_with_pasts_are_solid}
use Rattle.dr_ledger_past.proofs.laws.calls_go_on.Goals as goal

pub returns-clause-calls : goal.returns-clause-calls
returns-clause-calls g c = calls_go_on g.R.Routed.routing

pub returns-clause-adoptions : goal.returns-clause-adoptions
returns-clause-adoptions g c = adoptions_go_on g.R.Routed.routing g.N.Routed.routing

pub returns-clause-solid : goal.returns-clause-solid
returns-clause-solid g c = journals_with_pasts_are_solid g.R.Routed.routing
