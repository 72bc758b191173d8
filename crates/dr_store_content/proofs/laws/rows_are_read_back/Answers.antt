use Rattle.dr_store_content.proofs.ReadBack.{one_row}
use Rattle.dr_store_content.proofs.laws.rows_are_read_back.Goals as goal

pub returns : goal.returns
returns c = one_row
