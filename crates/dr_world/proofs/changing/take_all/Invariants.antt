use Rattle.std.proofs.Common.{take}
use Rattle.dr_world.specs.Adopted.{AllTake}
use Rattle.dr_world.proofs.changing.take_all.Given as goal

-- the nodes of the names before have gone over
abbrev pub invariant-loop-name : goal.invariant-loop-name
invariant-loop-name g l =
    AllTake l.next.plan l.next.certificate (take l.name-index l.names) l.fn.nodes l.nodes
