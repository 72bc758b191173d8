use Rattle.dr_world_tie.proofs.ForeignPushes.{letting_go_is_nothing, one_push_comes, requestors_begin}
use Rattle.dr_world_tie.proofs.others_are_called.Goals as goal

pub returns-clause-fresh : goal.returns-clause-fresh
returns-clause-fresh c = requestors_begin

pub returns-clause-pushed : goal.returns-clause-pushed
returns-clause-pushed c = one_push_comes

pub returns-clause-let_go : goal.returns-clause-let_go
returns-clause-let_go c = letting_go_is_nothing
