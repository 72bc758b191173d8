use Rattle.dr_pdu.proofs.FrontLemmas.{one_spelling}
use Rattle.dr_pdu.proofs.laws.no_spelling_begins_another.Goals as goal

pub returns : goal.returns
returns c = one_spelling
