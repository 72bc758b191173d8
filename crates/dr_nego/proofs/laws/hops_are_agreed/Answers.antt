use Rattle.dr_nego.proofs.HopAgreed.{hops_are_agreed}
use Rattle.dr_nego.proofs.laws.hops_are_agreed.Goals as goal

pub returns : goal.returns
returns c = hops_are_agreed
