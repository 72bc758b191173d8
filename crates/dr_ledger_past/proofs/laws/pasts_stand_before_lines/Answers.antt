use Rattle.dr_ledger_past.proofs.Before.{books_stay_apart, leaving_changes_nothing, no_past}
use Rattle.dr_ledger_past.proofs.Before.{pasts_are_one, pasts_stay_apart}
use Rattle.dr_ledger_past.proofs.laws.pasts_stand_before_lines.Goals as goal

pub returns-clause-none : goal.returns-clause-none
returns-clause-none c = no_past

pub returns-clause-two : goal.returns-clause-two
returns-clause-two c = pasts_are_one

pub returns-clause-books : goal.returns-clause-books
returns-clause-books c = books_stay_apart

pub returns-clause-pasts : goal.returns-clause-pasts
returns-clause-pasts c = pasts_stay_apart

pub returns-clause-leaving : goal.returns-clause-leaving
returns-clause-leaving c = leaving_changes_nothing
