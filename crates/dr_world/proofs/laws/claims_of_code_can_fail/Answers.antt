use Rattle.dr_world.proofs.Played.{claims_of_code_can_fail}
use Rattle.dr_world.proofs.laws.claims_of_code_can_fail.Goals as goal

pub returns : goal.returns
returns g c = claims_of_code_can_fail c.args._world.now
