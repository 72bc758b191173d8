use Rattle.std.proofs.Common.{◌≡◌, map, take}
use Rattle.dr_store_lists.proofs.listing.read_all.Given as goal

abbrev pub invariant-loop-row : goal.invariant-loop-row
invariant-loop-row g l = l.all.items ≡ map g.T.FromRow.shown (take l.row-index l.rows)
