use Rattle.dr_cert_trace.proofs.TwoNodes.{goes_there}
use Rattle.dr_cert_trace.proofs.laws.an_image_goes_to_the_archive.Goals as goal

pub returns : goal.returns
returns c = goes_there
