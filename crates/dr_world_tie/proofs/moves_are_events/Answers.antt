use Rattle.dr_world_tie.proofs.Moves.{receiver_moves, caller_moves}
use Rattle.dr_world_tie.proofs.moves_are_events.Goals as goal

pub returns-clause-receiver : goal.returns-clause-receiver
returns-clause-receiver c = receiver_moves

pub returns-clause-caller : goal.returns-clause-caller
returns-clause-caller c = caller_moves
