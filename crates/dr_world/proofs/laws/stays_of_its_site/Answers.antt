use Rattle.dr_world_tie.proofs.Sited.{reacts_keep}
use Rattle.dr_world.proofs.laws.stays_of_its_site.Goals as goal

pub returns : goal.returns
returns g c = reacts_keep g.P.DeskPort.step
