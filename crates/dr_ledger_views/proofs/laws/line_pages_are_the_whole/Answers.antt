use Rattle.dr_ledger_views.proofs.Numbered.{are_told, end, numbers_rise, whole}
use Rattle.dr_ledger_views.proofs.laws.line_pages_are_the_whole.Goals as goal

pub returns-clause-rise : goal.returns-clause-rise
returns-clause-rise c = record { told = are_told; rise = numbers_rise }

pub returns-clause-whole : goal.returns-clause-whole
returns-clause-whole c = whole

pub returns-clause-end : goal.returns-clause-end
returns-clause-end c = end
