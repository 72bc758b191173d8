use Rattle.dr_world_tie.proofs.Laws.{moves_are_whole, open_from_six_to_twelve, takes_over_nothing_on}
use Rattle.dr_world_tie.proofs.Laws.{what_may_be_is_done, what_nodes_are_told_is_done}
use Rattle.dr_world_tie.proofs.what_may_be_is_done.Goals as goal

pub returns-clause-moved : goal.returns-clause-moved
returns-clause-moved c = moves_are_whole

pub returns-clause-done : goal.returns-clause-done
returns-clause-done c = what_may_be_is_done

pub returns-clause-told : goal.returns-clause-told
returns-clause-told c = what_nodes_are_told_is_done

pub returns-clause-states : goal.returns-clause-states
returns-clause-states c = open_from_six_to_twelve

pub returns-clause-taken : goal.returns-clause-taken
returns-clause-taken c = takes_over_nothing_on
