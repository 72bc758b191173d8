use Rattle.dr_world.proofs.Finishing.{move_ends_pdu}
use Rattle.dr_world.proofs.laws.ends_pdus.Goals as goal

pub returns : goal.returns
returns c = move_ends_pdu
