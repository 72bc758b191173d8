use Rattle.dr_cert_text.proofs.Whole.{read_back}
use Rattle.dr_cert_text.proofs.laws.what_is_written_is_read.Goals as goal

pub returns : goal.returns
returns c = read_back
