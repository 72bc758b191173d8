use Rattle.dr_pdu.proofs.CutLemmas.{one_longest}
use Rattle.dr_pdu.proofs.laws.a_text_has_one_longest_list.Goals as goal

pub returns : goal.returns
returns c = one_longest
