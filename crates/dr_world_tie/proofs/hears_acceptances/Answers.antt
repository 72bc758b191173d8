use Rattle.dr_world_tie.proofs.Acceptances.{hears_acceptance}
use Rattle.dr_world_tie.proofs.hears_acceptances.Goals as goal

pub returns : goal.returns
returns c = hears_acceptance
