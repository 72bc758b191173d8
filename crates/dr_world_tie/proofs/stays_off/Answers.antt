use Rattle.dr_world_tie.proofs.Closing.{off_caller_is_no_event, off_receiver_is_no_event}
use Rattle.dr_world_tie.proofs.Off.{off_stays_off}
use Rattle.dr_world_tie.proofs.stays_off.Goals as goal

pub returns-clause-off : goal.returns-clause-off
returns-clause-off g c = off_stays_off g.P.DeskPort.step

pub returns-clause-caller : goal.returns-clause-caller
returns-clause-caller g c = off_caller_is_no_event g.P.DeskPort.step

pub returns-clause-receiver : goal.returns-clause-receiver
returns-clause-receiver g c = off_receiver_is_no_event g.P.DeskPort.step
