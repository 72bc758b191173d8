use Rattle.dr_run_ask.proofs.Written.{copy_read, dest_read, reason_read, row_read, rows_read, uid_read}
use Rattle.dr_run_ask.proofs.laws.forms_are_read.Goals as goal

pub returns : goal.returns
returns c = (row_read, reason_read, rows_read, dest_read, uid_read, copy_read)
