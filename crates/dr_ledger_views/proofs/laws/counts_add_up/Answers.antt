use Rattle.dr_ledger_views.proofs.Asked.{counts_add_up}
use Rattle.dr_ledger_views.proofs.laws.counts_add_up.Goals as goal

pub returns : goal.returns
returns c = counts_add_up
