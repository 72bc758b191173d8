use Rattle.dr_store_past.proofs.Shows.{either, goes_on}
use Rattle.dr_store_past.proofs.laws.what_is_written_goes_on.Goals as goal

pub returns-clause-written : goal.returns-clause-written
returns-clause-written g c = goes_on g.D.Disk

pub returns-clause-crash : goal.returns-clause-crash
returns-clause-crash g c = either g.D.Disk
