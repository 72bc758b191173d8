use Rattle.dr_dimse.proofs.FigureLemmas.{cancelled_read, long_id_of_cancel, short_id_of_cancel, no_id_of_cancel, long_status_of_cancel, short_status_of_cancel, no_status_of_cancel}
use Rattle.dr_dimse.proofs.figures.numbers_have_two_bytes.Goals as goal

pub returns : goal.returns
returns c = record {
  two = cancelled_read;
  long_id = long_id_of_cancel;
  short_id = short_id_of_cancel;
  no_id = no_id_of_cancel;
  long_status = long_status_of_cancel;
  short_status = short_status_of_cancel;
  no_status = no_status_of_cancel;
}
