use Rattle.std.proofs.Common.{take}
use Rattle.dr_world.specs.Nodes.{AllStandIn}
use Rattle.dr_world.specs.Reports.{AreSameNodes, AreWritten, books_of}
use Rattle.dr_world.proofs.listing.report_each.Given as goal

abbrev pub invariant-loop-name : goal.invariant-loop-name
invariant-loop-name g l = (AllStandIn l.nodes → AreWritten l.others (books_of l.fn.nodes) (take l.name-index l.names) l.fn.out.items l.out.items) × AreSameNodes l.fn.nodes l.nodes
