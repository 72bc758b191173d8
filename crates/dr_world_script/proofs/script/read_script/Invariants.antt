use Rattle.std.proofs.Common.{map, take}
use Rattle.dr_world_script.proofs.Telling.{SoFar}
use Rattle.dr_world_script.proofs.script.read_script.Given as goal

abbrev pub invariant-loop-i : goal.invariant-loop-i
invariant-loop-i l = SoFar (map (λ line. line.now) (take l.i l.line-items)) l.acts.items
