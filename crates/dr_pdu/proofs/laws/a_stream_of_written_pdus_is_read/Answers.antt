use Rattle.dr_pdu.proofs.StreamLemmas.{cut_stream}
use Rattle.dr_pdu.proofs.laws.a_stream_of_written_pdus_is_read.Goals as goal

pub returns : goal.returns
returns c = cut_stream
