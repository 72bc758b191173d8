use Rattle.dr_pdu.proofs.OneBody.{one_body}
use Rattle.dr_pdu.proofs.laws.a_body_is_one_pdu.Goals as goal

pub returns : goal.returns
returns c = one_body
