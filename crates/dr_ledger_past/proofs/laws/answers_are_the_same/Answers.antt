use Rattle.dr_ledger_past.proofs.Alike.{answers_alike, askings_alike, calls_alike}
use Rattle.dr_ledger_past.proofs.Before.{lines_are_both}
use Rattle.dr_ledger_past.proofs.laws.answers_are_the_same.Goals as goal

pub returns-clause-calls : goal.returns-clause-calls
returns-clause-calls g c = calls_alike g.R.Routed.routing

pub returns-clause-answers : goal.returns-clause-answers
returns-clause-answers g c = answers_alike g.R.Routed.routing

pub returns-clause-askings : goal.returns-clause-askings
returns-clause-askings g c = askings_alike g.R.Routed.routing

pub returns-clause-lines : goal.returns-clause-lines
returns-clause-lines g c = lines_are_both
