use Rattle.dr_world.proofs.Played.{changes_go_on, steps_go_on, writes_go_on}
use Rattle.dr_world.proofs.laws.steps_and_changes_go_on.Goals as goal

pub returns-clause-steps : goal.returns-clause-steps
returns-clause-steps g c = steps_go_on c.args._old.now c.args._new.now

pub returns-clause-changes : goal.returns-clause-changes
returns-clause-changes g c = changes_go_on c.args._old.now c.args._new.now

pub returns-clause-writes : goal.returns-clause-writes
returns-clause-writes g c = writes_go_on c.args._old.now c.args._new.now
