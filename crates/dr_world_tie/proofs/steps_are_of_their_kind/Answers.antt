use Rattle.dr_world_tie.proofs.Laws.{moves_are_of_their_ends, steps_are_of_their_kind, what_is_told_is_seen}
use Rattle.dr_world_tie.proofs.steps_are_of_their_kind.Goals as goal

pub returns-clause-moves : goal.returns-clause-moves
returns-clause-moves c = moves_are_of_their_ends

pub returns-clause-kinds : goal.returns-clause-kinds
returns-clause-kinds c = steps_are_of_their_kind

pub returns-clause-seen : goal.returns-clause-seen
returns-clause-seen c = what_is_told_is_seen
