use Rattle.dr_dimse.proofs.OneTake.{no_message}
use Rattle.dr_dimse.proofs.laws.after_a_fault_there_is_no_message.Goals as goal

pub returns : goal.returns
returns c = no_message
