use Rattle.dr_dimse_scan.proofs.FoundLemmas.{stores_alone}
use Rattle.dr_dimse_scan.proofs.laws.only_stores_are_read.Goals as goal

pub returns : goal.returns
returns c = stores_alone
