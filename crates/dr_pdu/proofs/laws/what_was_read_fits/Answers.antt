use Rattle.dr_pdu.proofs.ReadFits.{read_fits, read_within_fits}
use Rattle.dr_pdu.proofs.laws.what_was_read_fits.Goals as goal

pub returns : goal.returns
returns c = record { within = read_within_fits; any = read_fits }
