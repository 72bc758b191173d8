use Rattle.std.proofs.Common.{take}
use Rattle.dr_store.specs.Sealing.{HaveMoments}
use Rattle.dr_store.proofs.sealing.with_moments.Given as goal

abbrev pub invariant-loop-line : goal.invariant-loop-line
invariant-loop-line l = HaveMoments l.yielded (take l.at l.moments) l.all.items
