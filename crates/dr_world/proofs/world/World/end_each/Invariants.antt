use Rattle.std.proofs.Common.{take}
use Rattle.dr_world.specs.Restarted.{AllFarHear}
use Rattle.dr_world.proofs.world.World.end_each.Given as goal

abbrev pub invariant-loop-link : goal.invariant-loop-link
invariant-loop-link g l = AllFarHear l.name (take l.link-index l.links) l.fn.self l.self
