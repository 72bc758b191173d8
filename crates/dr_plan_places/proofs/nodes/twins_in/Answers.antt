use Rattle.std.proofs.Common.{arith}
use Rattle.dr_plan_places.proofs.ByName.{all_apart}
use Rattle.dr_plan_places.proofs.nodes.twins_in.Goals as goal

pub returns : goal.returns
returns c = all_apart c.args.nodes.now c.loop-late.late (omega arith) c.loop-late.invariant
