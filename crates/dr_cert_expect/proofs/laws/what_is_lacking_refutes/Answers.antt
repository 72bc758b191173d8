use Rattle.dr_cert_expect.proofs.Refuting.{refutes}
use Rattle.dr_cert_expect.proofs.laws.what_is_lacking_refutes.Goals as goal

pub returns : goal.returns
returns c = refutes
