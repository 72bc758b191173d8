use Rattle.std.proofs.Common.{Err}
use Rattle.dr_run_ask.proofs.asking.see.Goals as goal

pub returns-in-Err : goal.returns-in-Err
returns-in-Err g c = (Err c.in-Err.fault, c.in-Err.ensures)
