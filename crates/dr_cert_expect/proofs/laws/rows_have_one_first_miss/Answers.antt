use Rattle.dr_cert_expect.proofs.Refuting.{one_first}
use Rattle.dr_cert_expect.proofs.laws.rows_have_one_first_miss.Goals as goal

pub returns : goal.returns
returns c = one_first
