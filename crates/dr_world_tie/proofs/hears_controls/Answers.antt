use Rattle.dr_world_tie.proofs.Controls.{receiver_hears_control, caller_hears_control}
use Rattle.dr_world_tie.proofs.hears_controls.Goals as goal

pub returns-clause-receiver : goal.returns-clause-receiver
returns-clause-receiver c = receiver_hears_control

pub returns-clause-caller : goal.returns-clause-caller
returns-clause-caller c = caller_hears_control
