use Rattle.std.proofs.Common.{◌≡◌, map, take}
use Rattle.sqlite.specs.declared.types.Value.TheVariants.{Int}
use Rattle.sqlite.specs.Order.{column}
use Rattle.dr_store_lists.proofs.rowids.read_rowids.Given as goal

abbrev pub invariant-loop-row : goal.invariant-loop-row
invariant-loop-row l = map (λ e. Int e.0) l.ids.items ≡ map (λ r. column r 0) (take l.row-index l.rows)
