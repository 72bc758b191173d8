use Rattle.std.proofs.Common.{◌≡◌, ◌+◌, map, take}
use Rattle.dr_world_script.proofs.Placing.{counted}
use Rattle.dr_world_script.proofs.script.line_of.Given as goal

-- the lines so far that aren't skipped, and what is left, are the place
abbrev pub invariant-loop-i : goal.invariant-loop-i
invariant-loop-i l = counted (map (λ line. line.now) (take l.i l.line-items)) + l.left ≡ l.place
