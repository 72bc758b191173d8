use Rattle.dr_dimse.proofs.WrittenLemmas.{written_reads}
use Rattle.dr_dimse.proofs.laws.what_is_written_is_read.Goals as goal

pub returns : goal.returns
returns c = written_reads
