use Rattle.dr_world_tie.proofs.Closing.{closing_is_close}
use Rattle.dr_world_tie.proofs.closes.Goals as goal

pub returns : goal.returns
returns c = closing_is_close
