use Rattle.std.proofs.Common.{◌++◌, ℕ, List, take, flat_map, map}
use Rattle.sqlite_value.specs.Value.{owned}
use Rattle.sha2.specs.Hashers.{Holds256}
use Rattle.dr_store_content.specs.Rows.{cell_text}
use Rattle.dr_store_content.proofs.row.put_cells.Given as goal

abbrev pub invariant-loop-cell : goal.invariant-loop-cell
invariant-loop-cell l =
    (m : List ℕ) → Holds256 l.initial.hasher m
    → Holds256 l.hasher (m ++ flat_map cell_text (map owned (take l.cell-index l.cells)))
