-- The moments beside the lines of a journal, by their numbers.
use Rattle.std.specs.Prelude.{ℕ, Option, codes, List}
use Rattle.std.specs.Prelude.{map as mapped}
use Rattle.std.specs.Ordering.{nat_cmp}
use Rattle.std.specs.FinMap as map
use Rattle.std.specs.FinMap.{FinMap}
use Rattle.sqlite.specs.Order.{Row, column}
use Rattle.sqlite.specs.Tree.{Trees, rowid}
use Rattle.dr_store_schema.specs.Cells.{moment_in, number_in}

-- by the line's number its moment, or none where none was told
abbrev pub moments_of : Trees → FinMap nat_cmp (Option ℕ)
moments_of db = map.from_entries
    (mapped (λ (row : Row). (number_in (rowid row), moment_in (column row 7))) (db 11))

-- the query of all of them
abbrev pub all_moments : List ℕ
all_moments = codes "SELECT n, moment FROM journal ORDER BY n"

-- a row as the query shows it
abbrev pub shown_moment : Row → ℕ × Option ℕ
shown_moment row = (number_in (column row 0), moment_in (column row 1))
