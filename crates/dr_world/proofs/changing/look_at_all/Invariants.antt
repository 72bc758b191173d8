use Rattle.std.proofs.Common.{take}
use Rattle.dr_world.specs.Adopted.{AreFit}
use Rattle.dr_world.specs.Nodes.{AllStandIn, seats_of}
use Rattle.dr_world.specs.Reports.{AreSameNodes}
use Rattle.dr_world.proofs.changing.look_at_all.Given as goal

-- the rows of the nodes before are fit
abbrev pub invariant-loop-name : goal.invariant-loop-name
invariant-loop-name g l =
    AreSameNodes l.fn.nodes l.nodes
    × (AllStandIn l.nodes → AreFit l.next.plan (seats_of l.fn.nodes) (take l.name-index l.names))
