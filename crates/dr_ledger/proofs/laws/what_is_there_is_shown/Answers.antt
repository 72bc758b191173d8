use Rattle.dr_ledger.proofs.Shown.{kept_are_measured, lines_are_shown, lists_are_one}
use Rattle.dr_ledger.proofs.laws.what_is_there_is_shown.Goals as goal

pub returns-clause-lines : goal.returns-clause-lines
returns-clause-lines c = lines_are_shown

pub returns-clause-kept : goal.returns-clause-kept
returns-clause-kept c = kept_are_measured

pub returns-clause-listed : goal.returns-clause-listed
returns-clause-listed c = lists_are_one
