use Rattle.dr_route.proofs.Agreement.{holds_agrees, sends_agree, keeps_agree}
use Rattle.dr_route.proofs.laws.keys_of_one_cell_agree.Goals as goal

pub returns-clause-holds : goal.returns-clause-holds
returns-clause-holds c = holds_agrees

pub returns-clause-sends : goal.returns-clause-sends
returns-clause-sends c = sends_agree

pub returns-clause-keeps : goal.returns-clause-keeps
returns-clause-keeps c = keeps_agree
