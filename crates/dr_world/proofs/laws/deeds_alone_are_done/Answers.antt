use Rattle.dr_world.proofs.Orders.{deeds_alone_are_done}
use Rattle.dr_world.proofs.laws.deeds_alone_are_done.Goals as goal

pub returns : goal.returns
returns c = deeds_alone_are_done
