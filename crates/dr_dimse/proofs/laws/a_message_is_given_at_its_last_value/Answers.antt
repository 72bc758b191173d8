use Rattle.dr_dimse.proofs.GivenLemmas.{given_is, is_given}
use Rattle.dr_dimse.proofs.laws.a_message_is_given_at_its_last_value.Goals as goal

pub returns : goal.returns
returns c = record { given = given_is; whole = is_given }
