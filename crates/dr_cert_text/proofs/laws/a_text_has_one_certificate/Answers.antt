use Rattle.dr_cert_text.proofs.Whole.{same_certificate}
use Rattle.dr_cert_text.proofs.laws.a_text_has_one_certificate.Goals as goal

pub returns : goal.returns
returns c = same_certificate
