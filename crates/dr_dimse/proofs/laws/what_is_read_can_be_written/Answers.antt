use Rattle.dr_dimse.proofs.FitLemmas.{read_fits}
use Rattle.dr_dimse.proofs.laws.what_is_read_can_be_written.Goals as goal

pub returns : goal.returns
returns c = read_fits
