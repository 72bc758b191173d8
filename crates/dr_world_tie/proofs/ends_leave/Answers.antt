use Rattle.dr_world_tie.proofs.Leaving.{receiver_leaves, late_at_receiver}
use Rattle.dr_world_tie.proofs.CallerLeaving.{caller_leaves, late_at_caller, release_leaves}
use Rattle.dr_world_tie.proofs.ends_leave.Goals as goal

pub returns-clause-caller : goal.returns-clause-caller
returns-clause-caller c = caller_leaves

pub returns-clause-receiver : goal.returns-clause-receiver
returns-clause-receiver c = receiver_leaves

pub returns-clause-late : goal.returns-clause-late
returns-clause-late c = late_at_caller

pub returns-clause-release : goal.returns-clause-release
returns-clause-release c = release_leaves

pub returns-clause-late_receiver : goal.returns-clause-late_receiver
returns-clause-late_receiver c = late_at_receiver
