use Rattle.std.proofs.Common.{◌-◌, length}
use Rattle.dr_route.proofs.Finding.{AreWithin}
use Rattle.dr_route.proofs.search.longest.Given as goal

abbrev pub invariant-loop-fewer : goal.invariant-loop-fewer
invariant-loop-fewer l = AreWithin l.prefixes l.value (length l.value - l.fewer)
