use Rattle.dr_plan.proofs.Cores.{uncored}
use Rattle.dr_plan.proofs.read.read_plan.Goals as goal

pub returns-in-Err : goal.returns-in-Err
returns-in-Err c = rw c.fault_of.ensures (uncored c.args.text.now c.in-Err.fault c.in-Err.ensures.none)
