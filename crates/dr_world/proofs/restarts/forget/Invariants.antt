use Rattle.std.proofs.Common.{take}
use Rattle.dr_world.specs.Restarted.{AreForgotten}
use Rattle.dr_world.proofs.restarts.forget.Given as goal

abbrev pub invariant-loop-link : goal.invariant-loop-link
invariant-loop-link l = AreForgotten (take l.link-index l.links) l.fn.wires l.wires
