use Rattle.std.proofs.Common.{◌≡◌, ◌<◌, ◌^◌, ◌++◌, ℕ, take, slice_index}
use Rattle.dr_store_shelf.specs.Cells.{written}
use Rattle.dr_store_shelf.proofs.cell.write_all.Given as goal

abbrev pub invariant-loop-number : goal.invariant-loop-number
invariant-loop-number l =
    (l.cell.items ≡ l.initial.cell.items ++ written (take l.number-index l.numbers))
    × ((i : ℕ) → i < l.number-index → slice_index l.numbers i < 2 ^ 64)
