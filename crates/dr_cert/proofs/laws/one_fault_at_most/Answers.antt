use Rattle.dr_cert.proofs.OneFault.{one_fault}
use Rattle.dr_cert.proofs.laws.one_fault_at_most.Goals as goal

pub returns : goal.returns
returns c = one_fault
