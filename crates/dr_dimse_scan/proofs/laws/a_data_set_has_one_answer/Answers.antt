use Rattle.dr_dimse_scan.proofs.FoundLemmas.{one_told, some_told}
use Rattle.dr_dimse_scan.proofs.laws.a_data_set_has_one_answer.Goals as goal

pub returns : goal.returns
returns c = record { one = one_told; some = some_told }
