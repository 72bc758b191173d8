use Rattle.dr_site.proofs.ContextsAsPlanned.{pairs_as_planned, accepts_as_planned}
use Rattle.dr_site.proofs.laws.sites_have_the_plans_contexts.Goals as goal

pub returns-clause-pairs : goal.returns-clause-pairs
returns-clause-pairs c = pairs_as_planned

pub returns-clause-accepts : goal.returns-clause-accepts
returns-clause-accepts c = accepts_as_planned
