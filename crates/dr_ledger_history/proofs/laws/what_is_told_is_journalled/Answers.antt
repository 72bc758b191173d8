use Rattle.dr_ledger_history.proofs.Telling.{all_but_the_lines, told_has_one_content, told_is_journalled}
use Rattle.dr_ledger_history.proofs.laws.what_is_told_is_journalled.Goals as goal

pub returns-clause-journal : goal.returns-clause-journal
returns-clause-journal g c = told_is_journalled g.R.Routed.routing

pub returns-clause-one : goal.returns-clause-one
returns-clause-one g c = told_has_one_content g.R.Routed.routing

pub returns-clause-all : goal.returns-clause-all
returns-clause-all g c = all_but_the_lines
