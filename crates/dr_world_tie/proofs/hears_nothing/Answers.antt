use Rattle.dr_world_tie.proofs.Moving.{nothing_heard, nothing_heard_back}
use Rattle.dr_world_tie.proofs.hears_nothing.Goals as goal

pub returns-clause-receiver : goal.returns-clause-receiver
returns-clause-receiver g c = nothing_heard g.P.DeskPort.step

pub returns-clause-caller : goal.returns-clause-caller
returns-clause-caller g c = nothing_heard_back g.P.DeskPort.step
