use Rattle.dr_store_begun.proofs.Worked.{one_beginning}
use Rattle.dr_store_begun.proofs.laws.pasts_have_one_beginning.Goals as goal

pub returns : goal.returns
returns c = one_beginning
