use Rattle.dr_pdu.proofs.HasAnswer.{has_answer}
use Rattle.dr_pdu.proofs.FeedAnswers.{piece_has_answer}
use Rattle.dr_pdu.proofs.laws.a_text_has_an_answer.Goals as goal

pub returns : goal.returns
returns c = record { text = has_answer; piece = piece_has_answer }
