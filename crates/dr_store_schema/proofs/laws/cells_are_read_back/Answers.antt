use Rattle.dr_store_schema.proofs.WhatIsWritten.{cells_say_what_was_written}
use Rattle.dr_store_schema.proofs.laws.cells_are_read_back.Goals as goal

pub returns : goal.returns
returns c = cells_say_what_was_written
