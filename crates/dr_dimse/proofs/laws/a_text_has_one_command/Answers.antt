use Rattle.dr_dimse.proofs.OneCommand.{one_command}
use Rattle.dr_dimse.proofs.laws.a_text_has_one_command.Goals as goal

pub returns : goal.returns
returns c = one_command
