use Rattle.std.proofs.Common.{◌≡◌, ◌++◌, take}
use Rattle.dr_world_tie.specs.Channels.{bytes_of}
use Rattle.dr_world.proofs.wires.put.Given as goal

abbrev pub invariant-loop-action : goal.invariant-loop-action
invariant-loop-action l = l.wire.items ≡ l.fn.wire.items ++ bytes_of (take l.action-index l.actions)
