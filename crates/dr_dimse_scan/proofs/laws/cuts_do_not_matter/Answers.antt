use Rattle.dr_dimse_scan.proofs.FoundLemmas.{cuts}
use Rattle.dr_dimse_scan.proofs.laws.cuts_do_not_matter.Goals as goal

pub returns : goal.returns
returns c = cuts
