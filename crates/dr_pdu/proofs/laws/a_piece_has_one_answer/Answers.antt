use Rattle.dr_pdu.proofs.OneFeed.{one_feed}
use Rattle.dr_pdu.proofs.laws.a_piece_has_one_answer.Goals as goal

pub returns : goal.returns
returns c = one_feed
