use Rattle.dr_dimse.proofs.FitLemmas.{store_answer_fits, echo_answer_fits, other_answer_fits}
use Rattle.dr_dimse.proofs.laws.a_request_can_be_answered.Goals as goal

pub returns : goal.returns
returns c = record { store = store_answer_fits; echo = echo_answer_fits; other = other_answer_fits }
