use Rattle.dr_store_schema.proofs.Understood.{texts_make_tables}
use Rattle.dr_store_schema.proofs.laws.texts_make_the_tables.Goals as goal

pub returns : goal.returns
returns c = texts_make_tables
