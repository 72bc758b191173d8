use Rattle.dr_store_open.proofs.Fresh.{new_ledgers_are}
use Rattle.dr_store_open.proofs.laws.a_new_ledger_is_a_ledger.Goals as goal

pub returns : goal.returns
returns c = new_ledgers_are
