use Rattle.dr_node.proofs.Alone.{over, unknown}
use Rattle.dr_node.proofs.laws.rests.Goals as goal

pub returns-clause-unknown : goal.returns-clause-unknown
returns-clause-unknown g c = unknown g.P.DeskPort.step

pub returns-clause-over : goal.returns-clause-over
returns-clause-over g c = over g.P.DeskPort.step
