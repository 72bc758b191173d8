use Rattle.dr_ledger_past.proofs.Before.{folds_go_on, more_lines, one_line_more}
use Rattle.dr_ledger_past.proofs.laws.lines_make_the_same.Goals as goal

pub returns-clause-one : goal.returns-clause-one
returns-clause-one c = one_line_more

pub returns-clause-more : goal.returns-clause-more
returns-clause-more c = more_lines

pub returns-clause-folds : goal.returns-clause-folds
returns-clause-folds c = folds_go_on
