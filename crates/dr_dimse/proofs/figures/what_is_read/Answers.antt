use Rattle.dr_dimse.proofs.FigureLemmas.{request_read, answer_read, moved_read, long_id_bad, cancel_read}
use Rattle.dr_dimse.proofs.figures.what_is_read.Goals as goal

pub returns : goal.returns
returns c = record { request = request_read; answer = answer_read; moved = moved_read; long_id = long_id_bad; cancel = cancel_read }
