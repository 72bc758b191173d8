use Rattle.std.proofs.Common.{◌<◌}
use Rattle.std.specs.List.{AllAdjacentBelow}
use Rattle.dr_desk.specs.declared.receipt.Receipt.{Receipt}
use Rattle.dr_desk.proofs.closing.each_rises.Given as goal

abbrev pub invariant-loop-i : goal.invariant-loop-i
invariant-loop-i l = AllAdjacentBelow (λ (a b : Receipt). a.number < b.number) l.receipts.items l.i
