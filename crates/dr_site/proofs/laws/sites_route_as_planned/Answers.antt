use Rattle.dr_site.proofs.AsPlanned.{lines_as_planned, sends_as_planned, keeps_as_planned}
use Rattle.dr_site.proofs.laws.sites_route_as_planned.Goals as goal

pub returns-clause-lines : goal.returns-clause-lines
returns-clause-lines c = lines_as_planned

pub returns-clause-sends : goal.returns-clause-sends
returns-clause-sends c = sends_as_planned

pub returns-clause-keeps : goal.returns-clause-keeps
returns-clause-keeps c = keeps_as_planned
