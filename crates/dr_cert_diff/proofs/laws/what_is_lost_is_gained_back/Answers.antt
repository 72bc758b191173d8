use Rattle.dr_cert_diff.proofs.Lawful.{gained_back}
use Rattle.dr_cert_diff.proofs.laws.what_is_lost_is_gained_back.Goals as goal

pub returns : goal.returns
returns c = gained_back
