use Rattle.dr_dimse_scan.proofs.FoundLemmas.{read_whole, large_is_none}
use Rattle.dr_dimse_scan.proofs.laws.a_store_is_read_whole.Goals as goal

pub returns : goal.returns
returns c = record { whole = read_whole; large = large_is_none }
