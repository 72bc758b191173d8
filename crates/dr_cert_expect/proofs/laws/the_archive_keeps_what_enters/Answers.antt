use Rattle.dr_cert_expect.proofs.Figured.{two_nodes_keep}
use Rattle.dr_cert_expect.proofs.laws.the_archive_keeps_what_enters.Goals as goal

pub returns : goal.returns
returns c = two_nodes_keep
