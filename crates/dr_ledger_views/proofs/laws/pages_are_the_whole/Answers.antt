use Rattle.dr_ledger_views.proofs.Paged.{empty_pages_are_the_end, pages_are_the_whole}
use Rattle.dr_ledger_views.proofs.laws.pages_are_the_whole.Goals as goal

pub returns-clause-whole : goal.returns-clause-whole
returns-clause-whole c = pages_are_the_whole

pub returns-clause-end : goal.returns-clause-end
returns-clause-end c = empty_pages_are_the_end
