use Rattle.dr_ledger.proofs.Grounded.{others_are_not_counted}
use Rattle.dr_ledger.proofs.Shown.{failures_are_counted as counted, figures_rise}
use Rattle.dr_ledger.proofs.laws.failures_are_counted.Goals as goal

pub returns-clause-counted : goal.returns-clause-counted
returns-clause-counted c = counted

pub returns-clause-others : goal.returns-clause-others
returns-clause-others c = others_are_not_counted

pub returns-clause-figures : goal.returns-clause-figures
returns-clause-figures c = figures_rise
