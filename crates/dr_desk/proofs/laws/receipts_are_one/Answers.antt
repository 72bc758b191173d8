use Rattle.dr_desk.proofs.Recorded.{lines_are_of_one_call, receipts_are_one as one}
use Rattle.dr_desk.proofs.laws.receipts_are_one.Goals as goal

pub returns-clause-lines : goal.returns-clause-lines
returns-clause-lines c = lines_are_of_one_call

pub returns-clause-numbers : goal.returns-clause-numbers
returns-clause-numbers c = one
