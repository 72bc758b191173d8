use Rattle.std.proofs.Common.{◌≡◌, map, take}
use Rattle.dr_store_moments.specs.Moments.{shown_moment}
use Rattle.dr_store_moments.proofs.moments.read_moments.Given as goal

abbrev pub invariant-loop-row : goal.invariant-loop-row
invariant-loop-row l = l.all.items ≡ map shown_moment (take l.row-index l.rows)
