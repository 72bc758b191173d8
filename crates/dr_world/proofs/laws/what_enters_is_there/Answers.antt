use Rattle.dr_world.proofs.Answered.{entering_is_answered, what_enters_is_there}
use Rattle.dr_world.proofs.laws.what_enters_is_there.Goals as goal

pub returns-clause-answers : goal.returns-clause-answers
returns-clause-answers c = entering_is_answered

pub returns-clause-there : goal.returns-clause-there
returns-clause-there c = what_enters_is_there
