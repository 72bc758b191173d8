use Rattle.dr_store_content.proofs.Numbers.{one_number}
use Rattle.dr_store_content.proofs.laws.bytes_are_of_one_number.Goals as goal

pub returns : goal.returns
returns c = one_number
