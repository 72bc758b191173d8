use Rattle.std.proofs.Common.{◌≡◌, take}
use Rattle.dr_store_open.proofs.alike.is_row.Given as goal

abbrev pub invariant-loop-at : goal.invariant-loop-at
invariant-loop-at l = take l.at l.row ≡ take l.at l.other
