use Rattle.dr_store_schema.proofs.WhatIsWritten.{empty_tables_are_empty}
use Rattle.dr_store_schema.proofs.laws.empty_tables_are_an_empty_book.Goals as goal

pub returns : goal.returns
returns c = empty_tables_are_empty
