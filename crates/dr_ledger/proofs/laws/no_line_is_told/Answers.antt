use Rattle.dr_ledger.proofs.Replied.{no_line_is_told, no_line_is_told_before}
use Rattle.dr_ledger.proofs.laws.no_line_is_told.Goals as goal

pub returns-clause-arrive : goal.returns-clause-arrive
returns-clause-arrive g c = no_line_is_told g.R.Routed.routing

pub returns-clause-admits : goal.returns-clause-admits
returns-clause-admits g c = no_line_is_told_before g.R.Routed.routing
