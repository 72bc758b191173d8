use Rattle.dr_site.proofs.FormedSites.{sites_are_formed}
use Rattle.dr_site.proofs.laws.sites_are_formed.Goals as goal

pub returns : goal.returns
returns c = sites_are_formed
