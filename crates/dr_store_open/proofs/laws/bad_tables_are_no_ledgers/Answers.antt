use Rattle.dr_store_open.proofs.Fresh.{bad_tables_are_none}
use Rattle.dr_store_open.proofs.laws.bad_tables_are_no_ledgers.Goals as goal

pub returns : goal.returns
returns c = bad_tables_are_none
