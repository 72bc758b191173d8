use Rattle.dr_session.proofs.Aborting.{aborts_are_the_tables}
use Rattle.dr_session.proofs.laws.aborts_as_the_table.Goals as goal

pub returns : goal.returns
returns c = aborts_are_the_tables
