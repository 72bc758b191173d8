use Rattle.dr_store_open.proofs.Fresh.{ledgers_are_one}
use Rattle.dr_store_open.proofs.laws.a_file_has_one_ledger.Goals as goal

pub returns : goal.returns
returns c = ledgers_are_one
