use Rattle.dr_store_begun.proofs.Worked.{others_go_on, over_goes_on}
use Rattle.dr_store_begun.proofs.laws.lines_go_on_from_a_past.Goals as goal

pub returns-clause-over : goal.returns-clause-over
returns-clause-over g c = over_goes_on g.R.Routed.routing

pub returns-clause-others : goal.returns-clause-others
returns-clause-others g c = others_go_on g.R.Routed.routing
