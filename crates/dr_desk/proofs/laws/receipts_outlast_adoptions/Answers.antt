use Rattle.dr_desk.proofs.Carried.{adoptions_have_no_receipt, receipts_stay}
use Rattle.dr_desk.proofs.laws.receipts_outlast_adoptions.Goals as goal

pub returns-clause-stay : goal.returns-clause-stay
returns-clause-stay c = receipts_stay

pub returns-clause-none : goal.returns-clause-none
returns-clause-none c = adoptions_have_no_receipt
